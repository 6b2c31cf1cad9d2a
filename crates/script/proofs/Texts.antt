-- Text that is written piece after piece.
use Rattle.std.proofs.Common.{◌≡◌, ℕ, ◌+◌, ◌<◌, Bool, List, [], ◌∷◌, ◌++◌, length, take, set, Decides, ap, ◌∙◌, append_assoc, length-set, rules, arith}
use Rattle.std.proofs.lemmas.List.{take_more_set}
use Rattle.std.specs.Str.{bytes_eq}
use Rattle.std.proofs.lemmas.Slice.Eq.{bytes_eq-Decides}

-- two pieces, one after the other
pub then_also : {X : Type 0} {b c : List X} (a xs ys : List X) → b ≡ a ++ xs → c ≡ b ++ ys → c ≡ a ++ (xs ++ ys)
then_also a xs ys p q = q ∙ ap (λ l. l ++ ys) p ∙ append_assoc a xs ys

-- a test that decides whether two texts are the same
pub same_tested : (xs ys : List ℕ) (r : Bool) → Decides r (xs ≡ ys) → r ≡ bytes_eq xs ys
same_tested xs ys r decides = search (rules, bytes_eq-Decides)

-- two more at the end of what is written of a list
pub two_written : {X : Type 0} (xs : List X) (n k : ℕ) (x y : X) → n ≡ k + 2 → k + 1 < length xs → take n (set (set xs k x) (k + 1) y) ≡ take k xs ++ (x ∷ y ∷ [])
two_written xs n k x y e l =
    ap (λ m. take m (set (set xs k x) (k + 1) y)) (e ∙ omega arith)
    ∙ take_more_set (set xs k x) (k + 1) y (rw (length-set xs k x) l)
    ∙ ap (λ zs. zs ++ y ∷ []) (take_more_set xs k x (omega arith))
    ∙ append_assoc (take k xs) (x ∷ []) (y ∷ [])

-- The calls that a grid asks for each place.
use Rattle.std.proofs.Common.{◌≡◌, ℕ, suc, ◌+◌, ◌-◌, ◌<◌, List, [], ◌∷◌, ◌++◌, ap, ◌∙◌, append_assoc, arith}
use Rattle.session.specs.declared.order.Hand.TheVariants.{Own}
use Rattle.session.specs.declared.order.Order.TheVariants.{Mark, Show}
use Rattle.session.specs.declared.order.Which.{Which}
use Rattle.dialogue.specs.Scores.{on, marks}

-- those of the first place, and of the places behind it
pub marks_next : {S : Type 0} (w : Which) (p n : ℕ) → p < n → marks {S = S} w p (n - p) ≡ on w (Mark p) ∷ (on w (Show p Own) ∷ marks w (p + 1) (n - (p + 1)))
marks_next w p n less =
    let more : n - p ≡ suc (n - (p + 1)) = omega (arith, less) in
    ap (marks w p) more

-- two pushes, and what is still to come
pub pushed_twice : {X : Type 0} {ys zs : List X} (xs : List X) (a b : X) (ms : List X) → ys ≡ xs ++ (a ∷ []) → zs ≡ ys ++ (b ∷ []) → zs ++ ms ≡ xs ++ (a ∷ (b ∷ ms))
pushed_twice xs a b ms e f =
    ap (λ l. l ++ ms) f ∙ append_assoc _ (b ∷ []) ms ∙ ap (λ l. l ++ (b ∷ ms)) e ∙ append_assoc xs (a ∷ []) (b ∷ ms)

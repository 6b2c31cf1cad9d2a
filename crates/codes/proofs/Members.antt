-- A column looked for along a row, and a row read place by place.
use Rattle.std.proofs.Common.{◌≡◌, ℕ, ◌<◌, ◌||◌, eqb, List, [], ◌∷◌, length, get_or, Some, None, refl, ap, arith}
use Rattle.std.specs.List.{list_any, slice_get}
use Rattle.std.proofs.lemmas.Option.{slice_get-get_or}
use Rattle.codes.specs.Matrix.{member}

pub member_any : (c : ℕ) (row : List ℕ) → list_any (λ k. eqb k c) row ≡ member c row
member_any c [] = refl
member_any c (x ∷ xs) = ap (λ b. eqb x c || b) (member_any c xs)

pub some_here : (row : List ℕ) (i k : ℕ) → i < length row → Some k ≡ slice_get row i → k ≡ get_or row i 0
some_here row i k h e = let f = slice_get-get_or row i 0 h in cc

pub not_none : (row : List ℕ) (i : ℕ) → i < length row → None ≡ slice_get row i → ⊥
not_none row i h e = let f = slice_get-get_or row i 0 h in let z : ◌≡◌ {A = ℕ} 0 1 = cc in omega arith

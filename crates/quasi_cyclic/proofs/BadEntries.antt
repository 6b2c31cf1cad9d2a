-- The first bad entry, by the library's word for a first place.
use Rattle.std.proofs.Common.{◌≡◌, ℕ, ◌+◌, Bool, true, false, not, cond, List, [], ◌∷◌, ℤ, Some, refl, ap, ◌∙◌}
use Rattle.std.specs.List.{position, position_from}
use Rattle.std.proofs.lemmas.Iterator.Adapters.{position_from-zero}
use Rattle.quasi_cyclic.specs.Entries.{entry_fits, first_bad_entry}

swapped : {A : Type 0} (b : Bool) (x y : A) → cond (not b) x y ≡ cond b y x
swapped true x y = refl
swapped false x y = refl

bad_from : (z i : ℕ) (es : List ℤ) → position_from (λ e. not (entry_fits z e)) i es ≡ first_bad_entry z i es
bad_from z i [] = refl
bad_from z i (e ∷ es) = swapped (entry_fits z e) (Some i) (position_from (λ e. not (entry_fits z e)) (i + 1) es) ∙ ap (λ o. cond (entry_fits z e) o (Some i)) (bad_from z (i + 1) es)

pub first_bad : (z : ℕ) (es : List ℤ) → position (λ e. not (entry_fits z e)) es ≡ first_bad_entry z 0 es
first_bad z es = position_from-zero (λ e. not (entry_fits z e)) es ∙ bad_from z 0 es

-- None, one and several exclude one another, so an answer that is right is exactly right.
use Rattle.std.proofs.Common.{◌≡◌, ◌↔◌, sym, refl, ◌∙◌}
use Rattle.method.specs.Fillings.{No, Only, One, Two}
use Rattle.receiver.specs.History.{Answer}
use Rattle.receiver.specs.History.Answer.{none, one, several}

-- what two predicates that follow from one another have alike
module _ {W : Type 0} {P Q : W → Type 0} (to : (w : W) → P w → Q w) (back : (w : W) → Q w → P w) where
  pub no_same : No P → No Q
  no_same f w q = f w (back w q)

  pub only_same : (w : W) → Only P w → Only Q w
  only_same w u = (to w u.0, λ v q. u.1 v (back v q))

  pub two_same : Two P → Two Q
  two_same u = (u.0, u.1, to _ u.2, to _ u.3, u.4)

abbrev pub Right : {W : Type 0} → (W → Type 0) → Answer → Type 0
Right Q a = ((a ≡ none) ↔ No Q) × ((a ≡ one) ↔ One Q) × ((a ≡ several) ↔ Two Q)

module _ {W : Type 0} {P : W → Type 0} where
  no_one : No P → One P → ⊥
  no_one f u = f u.0 u.1.0

  no_two : No P → Two P → ⊥
  no_two f u = f u.0 u.2

  one_two : One P → Two P → ⊥
  one_two u t = t.4 (u.1.1 t.0 t.2 ∙ sym (u.1.1 t.1 t.3))

  pub none_right : No P → Right P none
  none_right f = ((λ e. f, λ g. refl), (λ e. cc, λ u. absurd (no_one f u)), (λ e. cc, λ u. absurd (no_two f u)))

  pub one_right : One P → Right P one
  one_right u =
      ((λ e. cc, λ f. absurd (no_one f u)), (λ e. u, λ v. refl), (λ e. cc, λ v. absurd (one_two u v)))

  pub several_right : Two P → Right P several
  several_right u =
      ((λ e. cc, λ f. absurd (no_two f u)), (λ e. cc, λ v. absurd (one_two v u)), (λ e. u, λ v. refl))

-- Forests of the sets that pairs join.
--
--   some_of       whether a list has an element
--   Drawn         a forest that stands for the labels that the pairs give to the columns below n; none where there is no pair
use Rattle.std.specs.Prelude.{◌≡◌, ℕ, Bool, true, false, List, [], ◌∷◌, IfSome, Option, is_some}
use Rattle.method.specs.Choices.{label, labels}
use Rattle.policies.specs.Forests.{Labelled}
use Rattle.policies.specs.declared.forest.Forest.{Forest}

abbrev pub some_of : {X : Type 0} → List X → Bool
some_of [] = false
some_of (x ∷ xs) = true

pub record Drawn (n : ℕ) (es : List (ℕ × ℕ)) (drawn : Option Forest) : Type 0 where
  pub tells : is_some drawn ≡ some_of es
  pub forest : IfSome drawn (λ t. Labelled t.up (label (labels n es)))

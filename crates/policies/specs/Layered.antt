-- A policy over another.
--
--   asking_below  what the policy below names, and its next state below
use Rattle.method.specs.Method.{Choice}
use Rattle.policies.specs.declared.component.Component.{Component}

abbrev pub asking_below : {P : Type 0} → Choice P → Choice (Component P)
asking_below choice p a u = ((choice p.below a u).0, record { below = (choice p.below a u).1 })

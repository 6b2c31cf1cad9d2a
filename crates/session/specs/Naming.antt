-- What the policy of a name names.
--
--   by_name       the choice that a name stands for; none of these policies keeps a state
--   named_choice  the choice of the policy of a name
use Rattle.codes.specs.Matrix.{Matrix}
use Rattle.method.specs.Method.{Choice}
use Rattle.method.specs.Choices.{plain, first, heaviest, component}
use Rattle.piles.specs.declared.policy.PolicyName.{PolicyName}
use Rattle.piles.specs.declared.policy.PolicyName.TheVariants.{First, Heaviest, ComponentFirst, ComponentHeaviest}
use Rattle.session.specs.declared.named.Named.{Named}

abbrev pub by_name : {P : Type 0} → PolicyName → Matrix → Choice P
by_name First k = plain (λ a u. first a)
by_name Heaviest k = plain (heaviest k)
by_name ComponentFirst k = component k (plain (λ a u. first a))
by_name ComponentHeaviest k = component k (plain (heaviest k))

abbrev pub named_choice : Matrix → Choice Named
named_choice k p a u = by_name p.name k p a u

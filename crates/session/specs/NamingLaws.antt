-- A policy by name names an active column, and none only where no column is active. (Lemmas: nothing here is to be believed.)
--
--   named_names   what the policy of a name names, by the laws of the policies that the names stand for
use Rattle.std.specs.Prelude.{Bool, List}
use Rattle.codes.specs.Matrix.{Matrix}
use Rattle.method.specs.Choices.{Names, plain, first, heaviest, column_weight}
use Rattle.method.proofs.Tops.{first_names, top_names, component_names}
use Rattle.piles.specs.declared.policy.PolicyName.{PolicyName}
use Rattle.piles.specs.declared.policy.PolicyName.TheVariants.{First, Heaviest, ComponentFirst, ComponentHeaviest}
use Rattle.session.specs.Naming.{by_name}
use Rattle.session.specs.declared.named.Named.{Named}

pub named_names : (n : PolicyName) (k : Matrix) (p : Named) (a u : List Bool) → Names a (by_name n k p a u).0
named_names First k p a u = first_names a
named_names Heaviest k p a u = top_names (column_weight k u) a
named_names ComponentFirst k p a u = component_names k (plain (λ a u. first a)) (λ q b v. first_names b) p a u
named_names ComponentHeaviest k p a u = component_names k (plain (heaviest k)) (λ q b v. top_names (column_weight k v) b) p a u

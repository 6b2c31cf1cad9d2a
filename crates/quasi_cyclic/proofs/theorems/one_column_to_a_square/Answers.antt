use Rattle.std.proofs.Common.{length}
use Rattle.quasi_cyclic.specs.EntryLaws.{sizes}
use Rattle.quasi_cyclic.proofs.SquareLaws.{one_to_a_square}
use Rattle.quasi_cyclic.proofs.theorems.one_column_to_a_square.Goals as goal

pub returns : goal.returns
returns c = λ a b z es f. one_to_a_square a b z es (sizes a b z (length es) f)

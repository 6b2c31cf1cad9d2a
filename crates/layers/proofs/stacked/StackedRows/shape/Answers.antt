use Rattle.std.proofs.Common.{rules}
use Rattle.layers.proofs.Stacks.{stacked_shape}
use Rattle.layers.proofs.stacked.StackedRows.shape.Goals as goal

pub returns : goal.returns
returns g c = search (rules, stacked_shape)

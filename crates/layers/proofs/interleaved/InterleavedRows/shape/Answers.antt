use Rattle.std.proofs.Common.{rules}
use Rattle.layers.proofs.Interleavings.{interleaved_shape}
use Rattle.layers.proofs.interleaved.InterleavedRows.shape.Goals as goal

pub returns : goal.returns
returns g c = search (rules, interleaved_shape)

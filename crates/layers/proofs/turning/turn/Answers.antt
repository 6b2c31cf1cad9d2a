use Rattle.std.proofs.Common.{mul_comm, arith}
use Rattle.layers.specs.LayerLaws.{turned_in}
use Rattle.layers.proofs.turning.turn.Goals as goal

pub overflow_add-result : goal.overflow_add-result
overflow_add-result c = let x = c.args in omega (arith, turned_in x.p x.q x.i c.if-i-p.true, mul_comm x.p x.q)

use Rattle.std.proofs.Common.{◌+◌, ◌*◌, length}
use Rattle.bits.proofs.Eights.{Filled}
use Rattle.bits.proofs.column.holders.Given as goal

abbrev pub invariant-loop-i : goal.invariant-loop-i
invariant-loop-i l = Filled l.words l.c l.set (8 * l.i)

abbrev pub invariant-loop-k : goal.invariant-loop-k
invariant-loop-k l = Filled l.words l.c l.set (8 * length l.eights + l.k)

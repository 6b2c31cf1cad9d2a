use Rattle.std.proofs.Common.{◌≡◌, take}
use Rattle.receiver.specs.Blocks.{zero_missing}
use Rattle.receiver.proofs.block.Block.clear_missing.Given as goal

abbrev pub invariant-loop-c : goal.invariant-loop-c
invariant-loop-c g l = l.table ≡ zero_missing g.S.Symbol.kind.zero (take l.c l.got-items) l.initial.table

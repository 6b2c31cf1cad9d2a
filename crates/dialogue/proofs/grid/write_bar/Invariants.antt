use Rattle.std.proofs.Common.{◌-◌, ◌≤◌, ◌++◌, replicate}
use Rattle.std.specs.Fmt.{HasWritten, IsPlainFormatter}
use Rattle.dialogue.proofs.grid.write_bar.Given as goal

abbrev pub invariant-loop : goal.invariant-loop
invariant-loop g l = IsPlainFormatter l.fn.f → HasWritten g.W.Write.write_str_gives l.fn.f (replicate l.counter 35) l.f

abbrev pub invariant-loop-2 : goal.invariant-loop-2
invariant-loop-2 g l = record {
  no_more : l.counter - l.full ≤ 10 - l.full;
  written : IsPlainFormatter l.fn.f → HasWritten g.W.Write.write_str_gives l.fn.f (replicate l.full 35 ++ replicate (l.counter - l.full) 46) l.f;
}

use Rattle.std.proofs.Common.{◌≡◌, ◌*◌, drop}
use Rattle.std.specs.List.{slice_get}
use Rattle.quasi_cyclic.specs.Entries.{line_row}
use Rattle.quasi_cyclic.proofs.circulant.questions.pick.Given as goal

abbrev pub invariant-loop-j : goal.invariant-loop-j
invariant-loop-j l = slice_get (line_row l.z l.r (l.j * l.z) (drop l.j l.line)) l.left ≡ slice_get (line_row l.z l.r 0 l.line) l.initial.left

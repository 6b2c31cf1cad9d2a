use Rattle.std.proofs.Common.{◌≡◌, map, vec_items}
use Rattle.dialogue.specs.Scores.{line}
use Rattle.dialogue.proofs.Beginnings.{SoFar}
use Rattle.dialogue.proofs.beginning.begin.Given as goal

abbrev pub invariant-loop-number : goal.invariant-loop-number
invariant-loop-number l =
    SoFar l.fn.lines.rest.now l.lines.rest.now l.lines.before (map line (vec_items l.answers))
    × (l.ahead.rest.now ≡ l.lines.rest.now)
    × (l.ahead.before ≡ l.lines.before)

use Rattle.std.proofs.Common.{List, map, vec_items}
use Rattle.dialogue.specs.Scores.{line, part, fresh}
use Rattle.dialogue.specs.Lines.{Numbered, Cuts}
use Rattle.dialogue.specs.Scripts.{Reads}
use Rattle.dialogue.proofs.whole.read_lines.Given as goal

abbrev pub invariant-loop-number : goal.invariant-loop-number
invariant-loop-number g l =
    let start = l.fn.lines in
    (ls : List Numbered) × Cuts start.rest.now start.before ls l.lines.rest.now l.lines.before
    × Reads g.S.Spelled.spelling (fresh (map line (vec_items l.fn.answers))) ls (part l.score)

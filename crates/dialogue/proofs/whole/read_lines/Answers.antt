use Rattle.std.proofs.Common.{[], ◌∷◌, ◌++◌, map, vec_items}
use Rattle.dialogue.specs.Scores.{line, part, fresh}
use Rattle.dialogue.specs.Lines.{Numbered}
use Rattle.dialogue.proofs.Cutting.{cuts_more, reads_more}
use Rattle.dialogue.proofs.whole.read_lines.Goals as goal

pub loop-number-preserved : goal.loop-number-preserved
loop-number-preserved g c =
    let sp = g.S.Spelled.spelling in
    let inv = c.loop-number.invariant in
    let steps = c.in-Some.ensures.steps in
    let l : Numbered = record { number = c.in-Some.number; text = c.in-Some.line.now } in
    let x = fresh (map line (vec_items c.args.answers)) in (
      inv.0 ++ (l ∷ []),
      cuts_more _ _ inv.0 _ _ l _ _ inv.1 steps.0 steps.1 steps.2,
      reads_more sp x inv.0 (part c.loop-number.score) l (part c.read_line.new.score) inv.2 c.in_ok-read_line.ensures,
    )

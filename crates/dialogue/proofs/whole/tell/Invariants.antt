use Rattle.std.proofs.Common.{◌≡◌, ◌++◌, drop, map, string_bytes}
use Rattle.dialogue.specs.Scores.{line}
use Rattle.dialogue.specs.Scripts.{lines_text}
use Rattle.dialogue.proofs.whole.tell.Given as goal

abbrev pub invariant-loop-answer : goal.invariant-loop-answer
invariant-loop-answer g l =
    let sp = g.S.Spelled.spelling in
    string_bytes l.text ++ lines_text sp (map line (drop l.answer-index l.answers)) l.rest ≡ lines_text sp (map line l.answers) l.log

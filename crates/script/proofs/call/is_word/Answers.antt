use Rattle.std.proofs.Common.{ap, ◌∙◌}
use Rattle.std.specs.Str.{bytes_eq}
use Rattle.std.proofs.lemmas.Slice.Eq.{slice_eq-Decides}
use Rattle.script.proofs.Texts.{same_tested}
use Rattle.script.proofs.call.is_word.Goals as goal
use Rattle.std.proofs.lemmas.Bool.Decides.{Decides-eqb}

pub returns : goal.returns
returns c =
    let word = c.args.word.now in
    same_tested word c.as_bytes.result.now c.eq.result (slice_eq-Decides Decides-eqb _ _ _ c.eq.ensures) ∙ ap (bytes_eq word) c.as_bytes.ensures.value

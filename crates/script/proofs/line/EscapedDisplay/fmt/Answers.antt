use Rattle.std.proofs.Common.{[], ◌++◌, get_or, ap, sym, ◌∙◌, append_assoc, append-nil, rules}
use Rattle.std.proofs.Output.{has_written_append, has_written_of_eq}
use Rattle.std.proofs.lemmas.List.{at_drop_more, at_drop_all}
use Rattle.script.specs.Lines.{escaped, all_escaped}
use Rattle.script.proofs.line.EscapedDisplay.fmt.Goals as goal

pub loop-byte-init : goal.loop-byte-init
loop-byte-init g c = λ plain. ([], search rules, search rules)

pub loop-byte-preserved : goal.loop-byte-preserved
loop-byte-preserved g c =
    λ plain.
    let now = c.loop-byte.invariant plain in
    let bytes = c.args.self.now.0.now in
    let i = c.loop-byte.byte-index in (
      now.0 ++ escaped (get_or bytes i 0),
      has_written_append _ _ _ _ _ _ now.1 (search rules),
      append_assoc now.0 (escaped (get_or bytes i 0)) _ ∙ ap (λ l. now.0 ++ l) (sym (at_drop_more all_escaped bytes i 0 c.loop-byte-test.true)) ∙ now.2,
    )

pub returns-clause-writes : goal.returns-clause-writes
returns-clause-writes g c = λ plain _.
    let now = c.loop-byte.invariant plain in
    let bytes = c.args.self.now.0.now in
    let end = at_drop_all all_escaped bytes c.loop-byte.byte-index c.loop-byte-test.false in
    has_written_of_eq _ _ _ _ _ (sym (append-nil now.0) ∙ ap (λ l. now.0 ++ l) (sym end) ∙ now.2) now.1

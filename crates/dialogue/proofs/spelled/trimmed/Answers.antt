use Rattle.std.proofs.Common.{sym, ◌∙◌}
use Rattle.dialogue.proofs.Trims.{trimmed_zero, trimmed_other}
use Rattle.dialogue.proofs.spelled.trimmed.Goals as goal

pub loop-rest-preserved : goal.loop-rest-preserved
loop-rest-preserved c = trimmed_zero c.loop-rest.rest.now c.if-last-ne0.false ∙ c.loop-rest.invariant

pub returns-then-last-ne0 : goal.returns-then-last-ne0
returns-then-last-ne0 c = sym (trimmed_other c.loop-rest.rest.now c.if-last-ne0.true) ∙ c.loop-rest.invariant

use Rattle.std.proofs.Common.{sym, ◌∙◌}
use Rattle.policies.proofs.Marks.{has_shown}
use Rattle.policies.proofs.columns.Columns.has.Goals as goal

pub returns : goal.returns
returns c = c.has.ensures ∙ sym (has_shown c.args.self.now c.args.c)

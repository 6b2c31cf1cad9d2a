use Rattle.std.proofs.Common.{false, ap, ◌∙◌, replicate}
use Rattle.policies.proofs.Marks.{marks_zeros}
use Rattle.policies.proofs.columns.Columns.none.Goals as goal

pub returns : goal.returns
returns c = marks_zeros 8 c.min.result ∙ ap (λ n. replicate n false) c.min.ensures

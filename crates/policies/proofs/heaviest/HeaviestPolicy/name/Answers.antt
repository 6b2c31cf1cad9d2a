use Rattle.std.proofs.Common.{length, ap, ◌∙◌}
use Rattle.method.specs.Choices.{column_weight}
use Rattle.policies.specs.Numbers.{at}
use Rattle.policies.specs.Shown.{shown}
use Rattle.policies.proofs.Tops.{top_same}
use Rattle.policies.proofs.heaviest.HeaviestPolicy.name.Goals as goal

pub returns : goal.returns
returns g c =
    let k = g.C.Rows.matrix c.args.code.now in
    let a = shown c.args.active.now in
    ap (λ o. (o, c.args.self.now))
    (c.top.ensures ∙ top_same (at c.weigh.result) (column_weight k (shown c.args.unused.now)) a (length a) (λ d _. c.weigh.ensures d))

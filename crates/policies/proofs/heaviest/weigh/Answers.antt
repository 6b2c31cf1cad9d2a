use Rattle.std.proofs.Common.{ap, ◌∙◌, arith}
use Rattle.method.specs.Choices.{burdens}
use Rattle.policies.specs.Numbers.{at}
use Rattle.policies.specs.Shown.{shown}
use Rattle.policies.proofs.Marks.{get_or_zeros}
use Rattle.policies.proofs.Weights.{count_most, weigh_more}
use Rattle.policies.proofs.heaviest.weigh.Goals as goal
use Rattle.policies.proofs.heaviest.weigh.Goals.{then-has, else-has}

pub loop-r-init : goal.loop-r-init
loop-r-init g c = get_or_zeros 512

pub tally-requires : goal.tally-requires
tally-requires g c d =
    let k = g.C.Rows.matrix c.args.code.now in
    let rows = ap (λ s. s.rows) c.shape-r-end.ensures in
    omega (arith, rows, c.loop-r.invariant d, count_most (burdens k (shown c.args.unused.now) d) c.loop-r.r, (g.C.Rows.lawful c.args.code.now).few_rows)

pub loop-r-preserved : goal.loop-r-preserved
loop-r-preserved g c d =
    let k = g.C.Rows.matrix c.args.code.now in
    let u = shown c.args.unused.now in
    let r = c.loop-r.r in
    let n = at c.loop-r.counts d in
    elim c.if-has.branch [
      | then-has v ↦ ap (λ s. at s d) v.counts-is ∙ v.tally.ensures d ∙ weigh_more k u d r n _ v.if-has.ensures (c.loop-r.invariant d)
      | else-has v ↦ ap (λ s. at s d) v.counts-is ∙ weigh_more k u d r n _ v.if-has.ensures (c.loop-r.invariant d)
    ]

use Rattle.std.proofs.Common.{length, Some, ◌∙◌, subst, arith}
use Rattle.codes.specs.Matrix.{height}
use Rattle.method.specs.Choices.{joins, label, labels}
use Rattle.policies.specs.Numbers.{at}
use Rattle.policies.specs.Drawings.{Drawn}
use Rattle.policies.specs.Shown.{shown}
use Rattle.policies.proofs.Marks.{length_shown}
use Rattle.policies.proofs.Sizes.{largest_is}
use Rattle.policies.proofs.joins.largest_joined.Goals as goal

pub returns : goal.returns
returns g c =
    let k = g.C.Rows.matrix c.args.code.now in
    let s = c.args.active.now in
    let a = shown s in
    let es = joins k a (shown c.args.unused.now) (height k) in
    let drawn : Drawn (length a) es (Some c.in_ok-forest.forest) = subst (Drawn (length a) es) c.in_ok-forest.was c.draw.ensures in
    c.top.ensures
    ∙ largest_is a es (at c.sizes.result) drawn.tells (λ l h. c.sizes.ensures (label (labels (length a) es)) drawn.forest l (omega (arith, s.narrow, length_shown s)))

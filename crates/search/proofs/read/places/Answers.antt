use Rattle.std.proofs.Common.{◌≡◌, ◌+◌, ◌-◌, subst, arith}
use Rattle.search.specs.Places.{Placed}
use Rattle.search.proofs.Placing.{placed_none, placed_unused, placed_beyond, placed_more}
use Rattle.search.proofs.read.places.Goals as goal

pub loop-r-init : goal.loop-r-init
loop-r-init c = placed_none c.args.uses.now c.args.m

pub loop-r-preserved : goal.loop-r-preserved
loop-r-preserved c =
    let u = c.args.uses.now in
    let r = c.loop-r.r in
    let up : r ≡ (r - 1) + 1 = omega arith in
    placed_unused u (r - 1) c.args.m c.loop-r.rows (subst (λ j. Placed u j c.args.m c.loop-r.rows) up c.loop-r.invariant) c.in_default.ensures

pub loop-r-preserved-then-c-lt512 : goal.loop-r-preserved-then-c-lt512
loop-r-preserved-then-c-lt512 c =
    let u = c.args.uses.now in
    let r = c.loop-r.r in
    let up : r ≡ (r - 1) + 1 = omega arith in
    placed_more u (r - 1) c.args.m c.loop-r.rows (subst (λ j. Placed u j c.args.m c.loop-r.rows) up c.loop-r.invariant) c.in-Some.c (omega arith) c.in-Some.ensures c.if-c-lt512.true

pub loop-r-preserved-else-c-lt512 : goal.loop-r-preserved-else-c-lt512
loop-r-preserved-else-c-lt512 c =
    let u = c.args.uses.now in
    let r = c.loop-r.r in
    let up : r ≡ (r - 1) + 1 = omega arith in
    placed_beyond u (r - 1) c.args.m c.loop-r.rows (subst (λ j. Placed u j c.args.m c.loop-r.rows) up c.loop-r.invariant) c.in-Some.c c.in-Some.ensures c.if-c-lt512.false

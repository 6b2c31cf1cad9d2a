use Rattle.std.proofs.Common.{◌+◌, Option, length, sym, subst, arith}
use Rattle.method.specs.Choices.{joins}
use Rattle.policies.specs.declared.forest.Forest.{Forest}
use Rattle.policies.specs.Drawings.{Drawn}
use Rattle.policies.specs.Shown.{shown}
use Rattle.policies.proofs.Marks.{length_shown}
use Rattle.policies.proofs.Labels.{pair_below, drawn_start, drawn_idle, drawn_other, drawn_pair}
use Rattle.policies.proofs.joins.draw.Goals as goal
use Rattle.policies.proofs.joins.draw.Goals.{then-has+in-Some, then-has+in_default, else-has}

pub loop-r-init : goal.loop-r-init
loop-r-init g c = drawn_start (length (shown c.args.active.now))

pub join-requires : goal.join-requires
join-requires g c =
    let s = c.args.active.now in
    let l = pair_below (g.C.Rows.matrix c.args.code.now) (shown s) c.loop-r.r c.in-Some.x c.in-Some.y c.in-Some.ensures in
    record { first = omega (arith, l.0, s.narrow, length_shown s); second = omega (arith, l.1, s.narrow, length_shown s) }

pub loop-r-preserved : goal.loop-r-preserved
loop-r-preserved g c =
    let k = g.C.Rows.matrix c.args.code.now in
    let a = shown c.args.active.now in
    let u = shown c.args.unused.now in
    let r = c.loop-r.r in
    let P : Option Forest → Type 0 = λ d. Drawn (length a) (joins k a u (r + 1)) d in
    elim c.if-has.branch [
      | then-has+in-Some v ↦ subst P (sym v.forest-is) (drawn_pair k a u r c.loop-r.forest c.loop-r.invariant v.in-Some.x v.in-Some.y v.get_or_insert_with.result.now v.join.new.self v.if-has.ensures v.in-Some.ensures v.get_or_insert_with.ensures.cases v.join.ensures)
      | then-has+in_default v ↦ subst P (sym v.forest-is) (drawn_other k a u r c.loop-r.forest c.loop-r.invariant v.if-has.ensures v.in_default.ensures)
      | else-has v ↦ subst P (sym v.forest-is) (drawn_idle k a u r c.loop-r.forest c.loop-r.invariant v.if-has.ensures)
    ]

use Rattle.std.proofs.Common.{false, ap, ◌∙◌, subst, arith}
use Rattle.method.specs.Sets.{count}
use Rattle.method.proofs.Counts.{count_le}
use Rattle.policies.specs.Shown.{shown}
use Rattle.policies.proofs.Marks.{length_shown}
use Rattle.search.specs.Rows.{Added}
use Rattle.search.proofs.Lines.{same_width, others_width, spent}
use Rattle.search.proofs.Rooms.{clear_le}
use Rattle.search.proofs.elimination.Elimination.use_row.Goals as goal

pub invariant_of-self : goal.invariant_of-self
invariant_of-self g c =
    let e = c.args.self.now in
    let wide = same_width e.active c.leave-2.new.self c.args.c false c.leave-2.ensures in
    record {
      high = same_width e.uses.unused c.put.new.self.unused c.args.r false c.put.ensures.unused ∙ e.high;
      few = e.few;
      within = e.within;
      long = e.long;
      room = omega (arith, e.room, ap count c.leave-2.ensures, clear_le (shown e.active) c.args.c);
      low = λ i l. omega (arith, e.low i l, wide);
    }

pub add_to_each-added-requires-clause-width : goal.add_to_each-added-requires-clause-width
add_to_each-added-requires-clause-width g c = others_width c.args.held.now c.leave.new.self c.args.r _ _ c.requires.held c.leave.ensures

pub overflow_add-self : goal.overflow_add-self
overflow_add-self g c =
    let others = c.leave.new.self in
    omega (arith, c.add_to_each-added.ensures.counted, count_le (shown others), length_shown others, others.narrow, c.requires.room)

pub returns-clause-few : goal.returns-clause-few
returns-clause-few g c =
    let others = c.leave.new.self in
    omega (
      arith,
      c.add_to_each-added.ensures.counted,
      count_le (shown others),
      length_shown others,
      others_width c.args.held.now others c.args.r _ _ c.requires.held c.leave.ensures,
      c.args.self.now.few,
    )

pub returns-clause-state : goal.returns-clause-state
returns-clause-state g c =
    let e = c.args.self.now in
    let add = c.add_to_each-added in
    spent g.S.Symbol.kind c.args.r c.args.c e add.new.words add.new.sides c.leave-2.new.self c.put.new.self _ (shown c.args.held.now)
    c.requires.row c.requires.column add.auto.sides c.requires.held
    (subst (λ o. Added g.S.Symbol.kind.sum o c.args.r e.words.now add.new.words e.sides.now add.new.sides) c.leave.ensures add.ensures.added)
    c.leave-2.ensures c.put.ensures.unused c.put.ensures.columns (add.ensures.counted ∙ ap count c.leave.ensures)

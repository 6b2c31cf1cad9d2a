use Rattle.std.proofs.Common.{◌+◌, ◌*◌, ◌<◌, ◌≤◌, false, length, get_or, sym, refl, ap, ◌∙◌, arith}
use Rattle.bits.proofs.Rows.{length_row}
use Rattle.std.proofs.lemmas.List.{get_or_read, get_or_default}
use Rattle.method.proofs.Counts.{count_le, none_count}
use Rattle.method.proofs.Marks.{lowest_some, lowest_none}
use Rattle.policies.specs.Shown.{shown}
use Rattle.policies.proofs.Marks.{shown_below, length_shown}
use Rattle.search.proofs.Added.{adding_more, adding_all, moved}
use Rattle.search.proofs.rows.add_to_each.Goals as goal

pub add_line-requires : goal.add_line-requires
add_line-requires g c =
    let here = (lowest_some (λ b. b) false (shown c.loop-q.q-iterator.left) c.in-Some.q (sym c.in-Some.ensures.steps.0)).0 in
    omega (arith, shown_below c.args.others.now c.in-Some.q (c.loop-q.invariant.part c.in-Some.q here), c.requires.width, c.loop-q.auto.sides)

pub overflow_add-count : goal.overflow_add-count
overflow_add-count g c =
    let all = c.args.others.now in
    omega (arith, c.loop-q.invariant.counted, count_le (shown all), length_shown all, all.narrow)

pub loop-q-preserved : goal.loop-q-preserved
loop-q-preserved g c =
    let q = c.in-Some.q in
    let left = shown c.loop-q.q-iterator.left in
    let all = c.args.others.now in
    let ss = c.loop-q.sides in
    let z = g.S.Symbol.kind.zero in
    let here = (lowest_some (λ b. b) false left q (sym c.in-Some.ensures.steps.0)).0 in
    let low : q < length ss = omega (arith, shown_below all q (c.loop-q.invariant.part q here), c.requires.width, c.loop-q.auto.sides) in
    let long : 8 * q + 8 ≤ length c.loop-q.words = omega (arith, c.requires.within, c.loop-q.auto.words, c.loop-q.auto.sides) in
    moved c.in-Some.ensures.steps.1 c.add_line.ensures.words (c.add_line.ensures.sides z)
    (adding_more g.S.Symbol.kind.sum (shown all) c.line_at-line.result c.index-sides-r.result c.args.words.now c.args.sides.now
    left c.loop-q.words ss c.loop-q.count q c.loop-q.invariant here
    (ap length c.line_at-line.ensures ∙ length_row c.args.words.now c.args.r) long low (get_or ss q z) (λ d. get_or_default ss q z d low))

pub returns : goal.returns
returns g c =
    let left = shown c.loop-q.q-iterator.left in
    let none = lowest_none (λ b. b) false refl left (sym c.in-None.ensures.steps.0) in
    record {
      added = adding_all g.S.Symbol.kind.sum (shown c.args.others.now) c.line_at-line.result c.index-sides-r.result c.args.words.now c.args.sides.now
          left c.loop-q.words c.loop-q.sides c.loop-q.count c.loop-q.invariant none c.args.r c.line_at-line.ensures
          (get_or_read c.args.sides.now c.args.r c.index-sides-r.result c.requires.row c.index-sides-r.is);
      counted = omega (arith, c.loop-q.invariant.counted, none_count left none);
    }

use Rattle.std.proofs.Common.{false, sym, refl, arith}
use Rattle.method.proofs.Marks.{lowest_some, lowest_none}
use Rattle.policies.specs.Shown.{shown}
use Rattle.policies.proofs.Marks.{shown_below}
use Rattle.search.proofs.Lowering.{lowering_more, lowering_all, left_count}
use Rattle.search.proofs.tally.Tally.lower.Goals as goal

pub lower_one-requires : goal.lower_one-requires
lower_one-requires c =
    let q = c.in-Some.q in
    let here = (lowest_some (λ b. b) false (shown c.loop-q.q-iterator.left) q (sym c.in-Some.ensures.steps.0)).0 in
    let held = c.loop-q.invariant.part q here in
    record {
      row = omega (arith, shown_below c.args.held.now q held, c.requires.few);
      some = omega (arith, left_count c.loop-q.invariant q here, c.requires.some q held);
    }

pub loop-q-preserved : goal.loop-q-preserved
loop-q-preserved c =
    let q = c.in-Some.q in
    let left = shown c.loop-q.q-iterator.left in
    let t = c.loop-q.self in
    let here = (lowest_some (λ b. b) false left q (sym c.in-Some.ensures.steps.0)).0 in
    let held = c.loop-q.invariant.part q here in
    let low = shown_below c.args.held.now q held in
    lowering_more (shown c.args.held.now) (shown c.args.unused.now) left c.args.self.now t c.lower_one.new.self q c.loop-q.invariant here
    (omega (arith, low, c.requires.few, t.room)) (omega (arith, low, c.requires.width, c.loop-q.invariant.wide)) (omega (arith, left_count c.loop-q.invariant q here, c.requires.some q held))
    c.lower_one.ensures.counts c.lower_one.ensures.ready _ c.in-Some.ensures.steps.1

pub returns : goal.returns
returns c =
    let left = shown c.loop-q.q-iterator.left in
    lowering_all (shown c.args.held.now) (shown c.args.unused.now) left c.args.self.now c.loop-q.self c.loop-q.invariant
    (lowest_none (λ b. b) false refl left (sym c.in-None.ensures.steps.0))

use Rattle.std.proofs.Common.{◌∙◌}
use Rattle.policies.proofs.Marks.{length_shown}
use Rattle.search.specs.View.{view}
use Rattle.search.proofs.Stepping.{memory_again, steps_again, steps_all}
use Rattle.search.proofs.elimination.Elimination.peel.Goals as goal

pub loop-preserved : goal.loop-preserved
loop-preserved g c =
    let K = g.S.Symbol.kind in
    let choice = g.P.Policy.choice (g.C.Rows.matrix c.args.code.now) in
    let h = c.loop-test.ensures in (
      memory_again c.loop.invariant.0 h.memory,
      h.going,
      steps_again K choice (view K c.loop.self c.loop.policy) _ (view K c.args.self.now c.args.policy.now) h.stepped c.loop.invariant.2,
    )

pub returns-clause-state : goal.returns-clause-state
returns-clause-state g c =
    let K = g.S.Symbol.kind in
    let k = g.C.Rows.matrix c.args.code.now in
    let e = c.args.self.now in
    steps_all K (g.P.Policy.choice k) (view K c.loop.self c.loop.policy) _ (view K e c.args.policy.now) c.loop-test.ensures.stepped c.loop.invariant.2 k.width (length_shown e.active ∙ c.requires.wide)

use Rattle.std.proofs.Common.{ap, ◌∙◌}
use Rattle.search.specs.Steps.{settled}
use Rattle.search.specs.View.{bare, with_policy}
use Rattle.search.proofs.Stepping.{settle_policy}
use Rattle.search.proofs.elimination.Elimination.eliminate.Goals as goal

pub returns-clause-state : goal.returns-clause-state
returns-clause-state g c =
    let K = g.S.Symbol.kind in
    let q = c.peel.new.policy in
    let s = bare K c.peel.new.self in
    ap (with_policy q) c.settle_all.ensures.state ∙ settle_policy K q s.pivots s ∙ ap (settled K) c.peel.ensures.state

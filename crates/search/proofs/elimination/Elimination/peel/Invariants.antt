use Rattle.std.proofs.Common.{◌≡◌, ℕ, ◌+◌}
use Rattle.method.specs.Sets.{count}
use Rattle.method.specs.Method.{steps}
use Rattle.policies.specs.Shown.{shown}
use Rattle.search.specs.Steps.{SameMemory, Going}
use Rattle.search.specs.View.{view}
use Rattle.search.proofs.elimination.Elimination.peel.Given as goal

-- what is left to do comes to the same, with any number of steps to spare
abbrev pub invariant-loop : goal.invariant-loop
invariant-loop g l =
    let k = g.C.Rows.matrix l.code in
    let K = g.S.Symbol.kind in
    let choice = g.P.Policy.choice k in
    SameMemory l.initial.self l.self
    × Going K l.self
    × ((j : ℕ) → steps K choice (j + count (shown l.self.active)) (view K l.self l.policy)
    ≡ steps K choice (j + count (shown l.initial.self.active)) (view K l.initial.self l.initial.policy))

abbrev pub decreases-loop : goal.decreases-loop
decreases-loop g l = count (shown l.self.active)

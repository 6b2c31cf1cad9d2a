use Rattle.std.proofs.Common.{◌≡◌, ℕ, ◌≤◌}
use Rattle.policies.specs.Forests.{Labelled, Kept}
use Rattle.policies.proofs.forest.Forest.find.Given as goal

abbrev pub invariant-loop-k : goal.invariant-loop-k
invariant-loop-k l = (l.k ≤ l.c) × Kept l.initial.self.up l.self.up × ((f : ℕ → ℕ) → Labelled l.initial.self.up f → f l.k ≡ f l.c)

abbrev pub decreases-loop-k : goal.decreases-loop-k
decreases-loop-k l = l.k

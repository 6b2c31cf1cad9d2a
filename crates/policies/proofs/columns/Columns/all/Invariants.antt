use Rattle.std.proofs.Common.{◌≡◌, ℕ, ◌<◌, true, get_or}
use Rattle.policies.specs.Shown.{shown}
use Rattle.policies.proofs.columns.Columns.all.Given as goal

abbrev pub invariant-loop-c : goal.invariant-loop-c
invariant-loop-c l = (l.set.width ≡ l.initial.set.width) × ((k : ℕ) → k < l.c → get_or (shown l.set) k true ≡ true)

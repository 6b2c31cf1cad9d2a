use Rattle.std.proofs.Common.{◌≡◌, ℕ, ◌<◌, length}
use Rattle.policies.specs.Numbers.{at}
use Rattle.policies.proofs.forest.Forest.alone.Given as goal

abbrev pub invariant-loop-c : goal.invariant-loop-c
invariant-loop-c l = (length l.root-items ≡ 512) × ((k : ℕ) → k < l.c → at l.root-items k ≡ k)

use Rattle.std.proofs.Common.{◌≡◌, ℕ, ◌<◌, get_or}
use Rattle.search.proofs.read.wipe.Given as goal

abbrev pub invariant-loop-side : goal.invariant-loop-side
invariant-loop-side g l = (k : ℕ) → k < l.side-index → get_or l.side-items k l.zero ≡ l.zero

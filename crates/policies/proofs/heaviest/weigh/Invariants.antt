use Rattle.std.proofs.Common.{◌≡◌, ℕ}
use Rattle.method.specs.Choices.{count_to, burdens}
use Rattle.policies.specs.Numbers.{at}
use Rattle.policies.specs.Shown.{shown}
use Rattle.policies.proofs.heaviest.weigh.Given as goal

abbrev pub invariant-loop-r : goal.invariant-loop-r
invariant-loop-r g l = (c : ℕ) → at l.counts c ≡ count_to (burdens (g.C.Rows.matrix l.code) (shown l.unused) c) l.r

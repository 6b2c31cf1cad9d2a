use Rattle.std.proofs.Common.{◌≡◌, ℕ, ◌<◌, Bool}
use Rattle.policies.specs.Shown.{shown}
use Rattle.search.proofs.Built.{Built}
use Rattle.search.proofs.passing.passing.Given as goal

abbrev pub invariant-loop-c : goal.invariant-loop-c
invariant-loop-c g l =
    (t : ℕ → Bool) → ((c : ℕ) (b : Bool) → c < l.n → goal.F-post g l.test c b → b ≡ t c) → Built l.n t (shown l.set) l.c

use Rattle.std.proofs.Common.{◌≡◌}
use Rattle.policies.specs.Shown.{shown}
use Rattle.guests.specs.Lasts.{last_to}
use Rattle.guests.proofs.last.LastPolicy.name.Given as goal

abbrev pub invariant-loop-c : goal.invariant-loop-c
invariant-loop-c g l = l.last ≡ last_to (shown l.active) l.c

use Rattle.receiver.specs.View.{model}
use Rattle.guests.specs.Hearing.{Heard}
use Rattle.guests.proofs.restoring.hear.Given as goal

abbrev pub invariant-loop-place : goal.invariant-loop-place
invariant-loop-place l = Heard l.heard l.place (model l.block)

use Rattle.std.proofs.Common.{◌+◌, sym, subst}
use Rattle.receiver.specs.View.{model}
use Rattle.guests.specs.Hearing.{Heard}
use Rattle.guests.proofs.Hearing.{heard_lost, heard_more}
use Rattle.guests.proofs.restoring.hear.Goals.{in-Some+in-Ok, in_default}
use Rattle.guests.proofs.restoring.hear.Goals as goal

pub loop-place-preserved : goal.loop-place-preserved
loop-place-preserved c =
    let bs = c.args.heard.now in
    let i = c.loop-place.place in
    let m = model c.loop-place.block in
    elim c.match-byte.branch [
      | in-Some+in-Ok w ↦ subst (λ b. Heard bs (i + 1) (model b)) (sym w.block-is) (heard_more bs i m c.loop-place.invariant w.in-Some.byte _ w.in-Some.is w.in-Ok.ensures.history)
      | in_default w ↦ subst (λ b. Heard bs (i + 1) (model b)) (sym w.block-is) (heard_lost bs i m c.loop-place.invariant w.in_default.not-Some)
    ]

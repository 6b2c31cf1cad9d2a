use Rattle.std.proofs.Common.{◌≡◌, length, ap, ◌∙◌, arith}
use Rattle.policies.specs.Shown.{shown}
use Rattle.policies.proofs.Marks.{length_shown}
use Rattle.guests.specs.Lasts.{last_to}
use Rattle.guests.proofs.last.LastPolicy.name.Goals as goal

pub returns : goal.returns
returns g c =
    let a = shown c.args.active.now in
    let all : c.loop-c.c ≡ length a = omega (arith, c.loop-c-test.false, c.loop-c.auto, length_shown c.args.active.now) in
    ap (λ o. (o, c.args.self.now)) (c.loop-c.invariant ∙ ap (last_to a) all)

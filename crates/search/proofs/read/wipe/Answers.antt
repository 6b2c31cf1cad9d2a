use Rattle.std.proofs.Common.{ap, ◌∙◌, arith}
use Rattle.search.specs.Found.{wiped}
use Rattle.std.proofs.lemmas.List.{length-take-le}
use Rattle.search.proofs.Wiped.{wiped_front}
use Rattle.search.proofs.read.wipe.Goals as goal

pub returns : goal.returns
returns g c =
    let k = c.min-k.result in
    let xs = c.args.sides.now in
    wiped_front c.zero-zero.result c.args.m k xs c.loop-side.side-items c.min-k.ensures (c.loop-side.auto.side-items ∙ length-take-le k xs (omega (arith, c.min-k.ensures)))
    (λ j h. c.loop-side.invariant j (omega (arith, c.loop-side.auto.side-items)))
    ∙ ap (λ z. wiped z c.args.m xs) c.zero-zero.ensures

use Rattle.std.proofs.Common.{rules}
use Rattle.bits.proofs.Found.{alone_left}
use Rattle.bits.proofs.Held.{holds_within}
use Rattle.bits.proofs.find.alone.Goals as goal

pub returns : goal.returns
returns c =
    let ws = c.args.set.now in
    let x = c.in_ok-c.c in
    let held = c.in_ok-c.ensures.0 in
    let left = alone_left ws c.flip.new.words x (holds_within ws x held) c.flip.ensures held c.least-2.result c.least-2.ensures in
    search (rules, left)

use Rattle.std.proofs.Common.{◌*◌, Some, arith}
use Rattle.bits.specs.Sets.{holds}
use Rattle.bits.proofs.Found.{least_lower, clear_words, least_word}
use Rattle.bits.proofs.find.least_from.Goals as goal

pub returns : goal.returns
returns c =
    let ws = c.args.set.now in
    let i = c.args.i in
    let j = c.in_ok-j.j in
    let found = c.in_ok-j.ensures.found in
    least_lower (holds ws) (64 * i) (64 * j) (omega (arith, found.0)) (clear_words ws i j c.in_ok-j.ensures.before) (Some _) (least_word ws j c.in_ok-j.word.now found.1 found.2 (c.fits-set j))

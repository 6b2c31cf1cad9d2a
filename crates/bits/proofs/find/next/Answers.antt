use Rattle.std.proofs.Common.{◌*◌, ◌+◌, ◌/◌, ◌<◌, arith}
use Rattle.bits.specs.Sets.{holds}
use Rattle.bits.proofs.Found.{least_lower, rest_within, in_word, clear_rest, least_rest}
use Rattle.bits.proofs.find.next.Goals as goal

pub overflow_add-result : goal.overflow_add-result
overflow_add-result c =
    let ws = c.args.set.now in
    let low = c.args.low in
    let rest = c.rest_at-rest.result in
    let some : 0 < rest = omega arith in
    omega (arith, rest_within ws low rest c.rest_at-rest.ensures some, in_word ws low rest c.rest_at-rest.ensures some c.rest_at-rest.type_inv (c.fits-set (low / 64)))

pub returns-then-rest-ne0 : goal.returns-then-rest-ne0
returns-then-rest-ne0 c =
    let ws = c.args.set.now in
    let low = c.args.low in
    let rest = c.rest_at-rest.result in
    let some : 0 < rest = omega arith in
    least_rest ws low rest c.rest_at-rest.ensures some c.rest_at-rest.type_inv (c.fits-set (low / 64))

pub returns : goal.returns
returns c =
    let ws = c.args.set.now in
    let low = c.args.low in
    let clear = clear_rest ws low c.rest_at-rest.result c.rest_at-rest.ensures c.if-rest-ne0.false in
    least_lower (holds ws) low (64 * (low / 64 + 1)) (omega arith) clear c.least_from.result c.least_from.ensures

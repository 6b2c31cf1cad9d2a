use Rattle.std.proofs.Common.{◌≡◌, ◌*◌, ◌/◌, ◌%◌, ◌^◌, eqb, [], get_or, ap₂, ◌∙◌, arith}
use lib.Bits.{bit_and}
use Rattle.std.proofs.lemmas.Nat.{pow_below}
use Rattle.bits.proofs.Eights.{bit_masked, eight_words}
use Rattle.bits.proofs.column.byte_of.Goals as goal

pub returns-clause-each : goal.returns-clause-each
returns-clause-each c k h =
    let rows = c.args.rows.now in
    let i = c.args.c / 64 in
    let one : 1 * 2 ^ (c.args.c % 64) % 2 ^ 64 ≡ 2 ^ (c.args.c % 64) = omega (arith, pow_below (c.args.c % 64) 64 (omega arith)) in
    c.with_bit.ensures.each k h
    ∙ ap₂ (λ w o. eqb (bit_and w o) o) (eight_words rows i k h) one
    ∙ bit_masked (get_or (get_or rows k []) i 0) (c.args.c % 64)

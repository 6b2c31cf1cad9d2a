use Rattle.std.proofs.Common.{sym, subst, arith}
use Rattle.std.specs.Str.{IsUtf8}
use Rattle.std.proofs.lemmas.Str.{IsUtf8-from_ascii}
use Rattle.script.specs.Hex.{digits_of}
use Rattle.script.proofs.Hexes.{digits_ascii}
use Rattle.script.proofs.hex.write_few.Goals as goal

pub unreachable-requires : goal.unreachable-requires
unreachable-requires g c =
    let bytes = c.args.bytes.now in
    let text = IsUtf8-from_ascii (digits_of bytes) (digits_ascii bytes (λ i. omega (arith, c.type_inv.bytes i))) in
    c.in_default.ensures.cases.0 (subst IsUtf8 (sym c.digits-text.ensures) text)

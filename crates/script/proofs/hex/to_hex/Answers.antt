use Rattle.std.proofs.Common.{◌≡◌, string_bytes, IfOk, ap, ◌∙◌, rules, arith}
use Rattle.std.proofs.lemmas.Result.{IfOk-weaker}
use Rattle.script.specs.Hex.{hex_of, bytes_of}
use Rattle.script.proofs.Hexes.{hex_back}
use Rattle.script.proofs.hex.to_hex.Goals as goal

pub returns : goal.returns
returns c =
    let bytes = c.args.bytes.now in
    let back = hex_back bytes (λ i. omega (arith, c.type_inv.bytes i)) in
    let text : IfOk c.format.result (λ s. string_bytes s ≡ hex_of bytes) = search rules in
    record { text = text; back = IfOk-weaker c.format.result _ _ (λ s e. ap bytes_of e ∙ back) text }

use Rattle.std.proofs.Common.{◌≡◌, ◌+◌, ◌*◌, ◌/◌, [], ◌∷◌, ◌++◌, take, drop, get_or, set, sym, ap, ◌∙◌, append_assoc, length-set, arith}
use Rattle.std.proofs.lemmas.List.{at_drop_more}
use Rattle.std.specs.Char.{digit_char}
use Rattle.script.specs.Hex.{byte_digits, digits_of}
use Rattle.script.proofs.Texts.{two_written}
use Rattle.script.proofs.hex.digits.Goals as goal

pub loop-i-preserved : goal.loop-i-preserved
loop-i-preserved c =
    let bytes = c.args.bytes.now in
    let i = c.loop-i.i in
    let text = c.loop-i.text in
    let long = c.loop-i.invariant.0 in
    let high = c.digit.result in
    let low = c.digit-in-loop-i.result in
    let rest = digits_of (drop (i + 1) bytes) in
    let two : high ∷ low ∷ [] ≡ byte_digits (get_or bytes i 0) = ap (λ h. h ∷ low ∷ []) c.digit.ensures ∙ ap (λ l. digit_char (get_or bytes i 0 / 16) ∷ l ∷ []) c.digit-in-loop-i.ensures in (
      length-set (set text (2 * i) high) (2 * i + 1) low ∙ length-set text (2 * i) high ∙ long,
      ap (λ l. l ++ rest) (two_written text _ (2 * i) high low (omega arith) (omega (arith, long)))
          ∙ ap (λ l. (take (2 * i) text ++ l) ++ rest) two
          ∙ append_assoc (take (2 * i) text) (byte_digits _) rest
          ∙ ap (λ l. take (2 * i) text ++ l) (sym (at_drop_more digits_of bytes i 0 c.loop-i-test.true))
          ∙ c.loop-i.invariant.1,
    )

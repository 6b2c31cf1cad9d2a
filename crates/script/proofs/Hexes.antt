-- Hex digits: what bytes print, and that it reads back as the same bytes.
use Rattle.std.proofs.Common.{◌≡◌, ℕ, suc, ◌+◌, ◌*◌, ◌/◌, ◌%◌, ◌<◌, List, [], ◌∷◌, ◌++◌, length, get_or, drop, Some, None, Option, sym, refl, ap, ◌∙◌, append_assoc, arith}
use Rattle.std.specs.Char.{digit_char}
use Rattle.std.specs.Str.{IsAscii}
use Rattle.std.proofs.lemmas.Bool.Decides.{nat_tests}
use Rattle.std.proofs.lemmas.Str.Ascii.{IsAscii-nil, IsAscii-cons}
use Rattle.script.specs.Hex.{digit_value, byte_of, joined, before, digits_of, pairs_of, hex_of, bytes_of}

digit_back : (d : ℕ) → d < 16 → digit_value (digit_char d) ≡ Some d
digit_back d small = grind (arith, nat_tests)

byte_back : (b : ℕ) → b < 256 → byte_of (digit_char (b / 16)) (digit_char (b % 16)) ≡ Some b
byte_back b small =
    let high : b / 16 < 16 = omega arith in
    let low : b % 16 < 16 = omega arith in
    let whole : b / 16 * 16 + b % 16 ≡ b = omega arith in
    (λ i. joined (digit_back (b / 16) high i) (digit_back (b % 16) low i)) ∙ ap Some whole

pairs_back : (bytes : List ℕ) → ((i : ℕ) → get_or bytes i 0 < 256) → pairs_of (digits_of bytes) ≡ Some bytes
pairs_back [] small = refl
pairs_back (b ∷ bs) small = λ i. before (byte_back b (small 0) i) (pairs_back bs (λ k. small (suc k)) i)

length_digits_of : (bytes : List ℕ) → length (digits_of bytes) ≡ 2 * length bytes
length_digits_of [] = refl
length_digits_of (b ∷ bs) = omega (arith, length_digits_of bs)

pub hex_back : (bytes : List ℕ) → ((i : ℕ) → get_or bytes i 0 < 256) → bytes_of (hex_of bytes) ≡ Some bytes
hex_back [] small = refl
hex_back (b ∷ bs) small = grind (arith, nat_tests, pairs_back (b ∷ bs) small, length_digits_of (b ∷ bs))

pub digits_append : (xs ys : List ℕ) → digits_of (xs ++ ys) ≡ digits_of xs ++ digits_of ys
digits_append [] ys = refl
digits_append (x ∷ xs) ys = ap (λ l. digit_char (x / 16) ∷ digit_char (x % 16) ∷ l) (digits_append xs ys)

digit_ascii : (d : ℕ) → d < 16 → digit_char d < 128
digit_ascii d small = grind (arith, nat_tests)

-- digits are text
pub digits_ascii : (bytes : List ℕ) → ((i : ℕ) → get_or bytes i 0 < 256) → IsAscii (digits_of bytes)
digits_ascii [] small = IsAscii-nil
digits_ascii (b ∷ bs) small =
    let byte = small 0 in
    let rest = IsAscii-cons (digit_char (b % 16)) (digits_of bs) (digit_ascii (b % 16) (omega arith)) (digits_ascii bs (λ k. small (suc k))) in
    IsAscii-cons (digit_char (b / 16)) (digit_char (b % 16) ∷ digits_of bs) (digit_ascii (b / 16) (omega (arith, byte))) rest

-- bytes that were read before others
abbrev pub after : List ℕ → Option (List ℕ) → Option (List ℕ)
after bytes None = None
after bytes (Some bs) = Some (bytes ++ bs)

after_byte : (bytes : List ℕ) (b : ℕ) (o : Option (List ℕ)) → after (bytes ++ b ∷ []) o ≡ after bytes (before (Some b) o)
after_byte bytes b None = refl
after_byte bytes b (Some bs) = ap Some (append_assoc bytes (b ∷ []) bs)

-- one more byte is read from the digits that are left
pub pair_read : (bytes rest : List ℕ) (b : ℕ) → 1 < length rest → byte_of (get_or rest 0 0) (get_or rest 1 0) ≡ Some b → after (bytes ++ b ∷ []) (pairs_of (drop 2 rest)) ≡ after bytes (pairs_of rest)
pair_read bytes (x ∷ y ∷ rest) b two is =
    after_byte bytes b (pairs_of rest) ∙ ap (λ o. after bytes (before o (pairs_of rest))) (sym is)
pair_read bytes (x ∷ []) b two is = absurd (omega arith)
pair_read bytes [] b two is = absurd (omega arith)

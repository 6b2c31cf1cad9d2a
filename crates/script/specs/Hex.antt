-- Bytes as text: two lowercase hex digits to a byte, and '-' for no bytes.
--
--   digit_value   the value of a digit, none for any other character
--   byte_digits   the two digits of a byte, the high one first
--   joined        a byte from the values of its digits, none where one is none
--   byte_of       the byte of two digits, none where one is no digit
--   before        a byte and those behind it, none where either is none
--   digits_of     the digits of bytes
--   pairs_of      the bytes of digits, none where a digit is left over or is none
--   mark          '-' where there are no bytes
--   hex_of        the text of bytes
--   dash          whether a text is '-' alone
--   bytes_of      the bytes of a text, none where it is no such text
use Rattle.std.specs.Prelude.{ℕ, ◌+◌, ◌-◌, ◌*◌, ◌/◌, ◌%◌, Bool, cond, ◌&&◌, List, [], ◌∷◌, ◌++◌, length, Some, None, codes, Option, ◌==◌, slice_index}
use Rattle.std.specs.Char.{is_ascii_digit, digit_char}
use Rattle.std.specs.Int.{is_in_range}

abbrev pub digit_value : ℕ → Option ℕ
digit_value c = cond (is_ascii_digit c) (Some (c - 48)) (cond (is_in_range 97 102 c) (Some (c - 87)) None)

abbrev pub byte_digits : ℕ → List ℕ
byte_digits b = digit_char (b / 16) ∷ digit_char (b % 16) ∷ []

abbrev pub joined : Option ℕ → Option ℕ → Option ℕ
joined None low = None
joined (Some h) None = None
joined (Some h) (Some l) = Some (h * 16 + l)

abbrev pub byte_of : ℕ → ℕ → Option ℕ
byte_of high low = joined (digit_value high) (digit_value low)

abbrev pub before : Option ℕ → Option (List ℕ) → Option (List ℕ)
before None bytes = None
before (Some b) None = None
before (Some b) (Some bs) = Some (b ∷ bs)

abbrev pub digits_of : List ℕ → List ℕ
digits_of [] = []
digits_of (b ∷ bs) = byte_digits b ++ digits_of bs

abbrev pub pairs_of : List ℕ → Option (List ℕ)
pairs_of [] = Some []
pairs_of (a ∷ []) = None
pairs_of (a ∷ b ∷ cs) = before (byte_of a b) (pairs_of cs)

abbrev pub mark : List ℕ → List ℕ
mark [] = codes "-"
mark (b ∷ bs) = []

abbrev pub hex_of : List ℕ → List ℕ
hex_of bytes = mark bytes ++ digits_of bytes

abbrev pub dash : List ℕ → Bool
dash text = length text == 1 && slice_index text 0 == 45

abbrev pub bytes_of : List ℕ → Option (List ℕ)
bytes_of text = cond (length text == 0) None (cond (dash text) (Some []) (pairs_of text))

-- Numbers of a script: decimal digits, one or more, leading zeros allowed, no sign.
--
--   numeral       whether a word is one digit or more, and nothing else
--   number_of     the number that a numeral writes, none where it does not fit 32 bits
use Rattle.std.specs.Prelude.{ℕ, ◌^◌, Bool, false, cond, ◌&&◌, List, [], ◌∷◌, Some, None, Option, nat_lt}
use Rattle.std.specs.Str.Parse.{digits_value}
use Rattle.std.specs.Str.{all_ascii_digits}

abbrev pub numeral : List ℕ → Bool
numeral [] = false
numeral (c ∷ cs) = all_ascii_digits (c ∷ cs)

abbrev pub number_of : List ℕ → Option ℕ
number_of word = cond (numeral word && nat_lt (digits_value 10 word) (2 ^ 32)) (Some (digits_value 10 word)) None

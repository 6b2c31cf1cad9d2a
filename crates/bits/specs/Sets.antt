-- Sets of numbers as the bits of 64-bit words, and rows of eight words in one list.
--
--   bit           whether bit k of a word is set
--   holds         whether a set holds a number
--   differ        either, and not both
--   xors, ands    word by word: what one of two sets holds and not both; what both hold
--   Put           what putting a number in does: it holds that too; past the end of the words, nothing
--   Flipped       what turning a number does: in where it was out, out where it was in; past the end, nothing
--   members       how many numbers a set holds
--   Least         the least number of which a test is true, or none
--   from_on       a test that asks for numbers from a bound on
--   Alone         the only number of which a test is true; none where there is none, or another
--   row           row r, its eight words; zeros where the words end before it does
--   put_row       the words with row r replaced, where they hold such a row
use Rattle.std.specs.Prelude.{◌≡◌, ℕ, ◌*◌, ◌/◌, ◌%◌, ◌^◌, ◌<◌, ◌≤◌, Bool, true, false, cond, not, ◌&&◌, ◌||◌, List, length, replicate, Some, None, count_by, Option, ◌==◌, ◌≢◌, bit_and, bit_xor, nat_le, nat_lt, slice_index}
use Rattle.std.specs.Simd.Lanes.{zip2, chunk, put_chunk}
use Rattle.std.specs.List.{range_with_len}

abbrev pub bit : ℕ → ℕ → Bool
bit w k = w / 2 ^ k % 2 == 1

abbrev pub holds : List ℕ → ℕ → Bool
holds ws c = bit (slice_index ws (c / 64)) (c % 64)

abbrev pub differ : Bool → Bool → Bool
differ a b = cond a (not b) b

abbrev pub xors : List ℕ → List ℕ → List ℕ
xors xs ys = zip2 bit_xor xs ys

abbrev pub ands : List ℕ → List ℕ → List ℕ
ands xs ys = zip2 bit_and xs ys

pub record Put (c : ℕ) (xs ys : List ℕ) : Type 0 where
  pub within : c / 64 < length xs → (d : ℕ) → holds ys d ≡ (holds xs d || d == c)
  pub past : length xs ≤ c / 64 → ys ≡ xs

pub record Flipped (c : ℕ) (xs ys : List ℕ) : Type 0 where
  pub within : c / 64 < length xs → (d : ℕ) → holds ys d ≡ differ (holds xs d) (d == c)
  pub past : length xs ≤ c / 64 → ys ≡ xs

abbrev pub members : List ℕ → ℕ
members ws = count_by (holds ws) (range_with_len 0 (64 * length ws))

abbrev pub Least : (ℕ → Bool) → Option ℕ → Type 0
Least p None = (c : ℕ) → p c ≡ false
Least p (Some c) = (p c ≡ true) × ((d : ℕ) → d < c → p d ≡ false)

abbrev pub from_on : ℕ → (ℕ → Bool) → ℕ → Bool
from_on low p c = nat_le low c && p c

abbrev pub Alone : (ℕ → Bool) → Option ℕ → Type 0
Alone p None = (c : ℕ) → p c ≡ true → (d : ℕ) × (p d ≡ true) × (d ≢ c)
Alone p (Some c) = (p c ≡ true) × ((d : ℕ) → p d ≡ true → d ≡ c)

abbrev pub row : List ℕ → ℕ → List ℕ
row ws r = cond (nat_lt r (length ws / 8)) (chunk (8 * r) 8 ws) (replicate 8 0)

abbrev pub put_row : List ℕ → ℕ → List ℕ → List ℕ
put_row ws r xs = cond (nat_lt r (length ws / 8)) (put_chunk (8 * r) ws xs) ws

-- What restoring a byte answers.
--
--   AgreesTo      at each place below i where a byte was heard, this byte
--   Fits          n bytes whose sum is zero, those heard among them
--   Settles       just one list of bytes fits what was heard, and it has x at the place asked for
--   sum_heard     the sum of the bytes heard
--   OnlyLost      a byte was heard at every place but one
use Rattle.std.specs.Prelude.{◌≡◌, ℕ, ◌<◌, ◌≤◌, true, ◌≢◌, List, map, length, is_some, Some, None, Option, slice_index_or}
use Rattle.std.specs.List.{slice_get}
use Rattle.symbols.specs.Sums.{total}
use Rattle.method.specs.Fillings.{Only}
use Rattle.guests.specs.Bytes.{byte_of, byte_sum}
use Rattle.guests.specs.declared.byte.Byte.{Byte}

abbrev pub AgreesTo : List (Option Byte) → ℕ → List Byte → Type 0
AgreesTo heard i w = (c : ℕ) (x : Byte) → c < i → slice_index_or heard c None ≡ Some x → slice_index_or w c (byte_of 0) ≡ x

pub record Fits (heard : List (Option Byte)) (w : List Byte) : Type 0 where
  pub wide : length w ≡ length heard
  pub sums : total (byte_of 0) byte_sum w ≡ byte_of 0
  pub agrees : AgreesTo heard (length heard) w

pub record Settles (heard : List (Option Byte)) (place : ℕ) (x : Byte) : Type 0 where
  pub bytes : List Byte
  pub only : Only (Fits heard) bytes
  pub few : length heard ≤ 512
  pub there : slice_get bytes place ≡ Some x

abbrev pub or_zero : Option Byte → Byte
or_zero None = byte_of 0
or_zero (Some x) = x

abbrev pub sum_heard : List (Option Byte) → Byte
sum_heard heard = total (byte_of 0) byte_sum (map or_zero heard)

pub record OnlyLost (heard : List (Option Byte)) (place : ℕ) : Type 0 where
  pub few : length heard ≤ 512
  pub there : place < length heard
  pub lost : slice_index_or heard place None ≡ None
  pub others : (c : ℕ) → c < length heard → c ≢ place → is_some (slice_index_or heard c None) ≡ true

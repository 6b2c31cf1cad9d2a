-- The byte as a symbol kind.
--
--   byte_of       the byte of a number
--   byte_sum      exclusive or, bit by bit
--   byte_kind     zero, one, the sum, and whether a byte is zero
use Rattle.std.specs.Prelude.{ℕ, ◌==◌, bit_xor}
use Rattle.symbols.specs.Kinds.{Kind}
use Rattle.guests.specs.declared.byte.Byte.{Byte}

abbrev pub byte_of : ℕ → Byte
byte_of n = record { value = n }

abbrev pub byte_sum : Byte → Byte → Byte
byte_sum x y = byte_of (bit_xor x.value y.value)

abbrev pub byte_kind : Kind Byte
byte_kind = record { zero = byte_of 0; unit = byte_of 1; sum = byte_sum; is_zero = λ x. (x.value == 0) }

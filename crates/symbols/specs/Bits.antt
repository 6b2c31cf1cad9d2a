-- The bit as a symbol kind.
--
--   bit_sum       exclusive or
--   bit_kind      zero, one, their sum, and whether a bit is zero
use Rattle.std.specs.Prelude.{Bool, true, false}
use Rattle.symbols.specs.Kinds.{Kind}
use Rattle.symbols.specs.declared.kinds.Bit.{Bit}
use Rattle.symbols.specs.declared.kinds.Bit.TheVariants.{Zero, One}

abbrev pub bit_sum : Bit → Bit → Bit
bit_sum Zero y = y
bit_sum One Zero = One
bit_sum One One = Zero

abbrev pub bit_is_zero : Bit → Bool
bit_is_zero Zero = true
bit_is_zero One = false

abbrev pub bit_kind : Kind Bit
bit_kind = record { zero = Zero; unit = One; sum = bit_sum; is_zero = bit_is_zero }

-- The laws of the bit. (Lemmas: nothing here is to be believed.)
--
--   bit_laws      the five laws of the bit
use Rattle.std.proofs.Common.{rules}
use Rattle.symbols.specs.Kinds.{Laws}
use Rattle.symbols.specs.Bits.{bit_kind}

pub bit_laws : Laws bit_kind
bit_laws = search rules

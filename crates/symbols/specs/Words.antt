-- The word as a symbol kind.
--
--   word_of       the word of a number
--   word_sum      exclusive or, bit by bit
--   word_kind     zero, one, the sum, and whether a word is zero
use Rattle.std.specs.Prelude.{ℕ, ◌==◌, bit_xor}
use Rattle.symbols.specs.Kinds.{Kind}
use Rattle.symbols.specs.declared.kinds.Word.{Word}

abbrev pub word_of : ℕ → Word
word_of n = record { value = n }

abbrev pub word_sum : Word → Word → Word
word_sum x y = word_of (bit_xor x.value y.value)

abbrev pub word_kind : Kind Word
word_kind = record { zero = word_of 0; unit = word_of 1; sum = word_sum; is_zero = λ x. (x.value == 0) }

-- Numbers in an array, one for each column.
--
--   at            the number at place c, 0 past the end
use Rattle.std.specs.Prelude.{ℕ, List, slice_index}

abbrev pub at : List ℕ → ℕ → ℕ
at ws c = slice_index ws c

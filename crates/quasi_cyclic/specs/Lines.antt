-- The squares side by side that hold a row, by their base entries.
--
--   Line          what is known of the entries that give row r: no square of them lies past the last column,
--                 and the squares that are not empty give the row's columns, in their order
use Rattle.std.specs.Prelude.{◌≡◌, ℕ, ◌*◌, ◌<◌, ◌≤◌, true, List, length, ℤ, pos, slice_index_or}
use Rattle.std.specs.List.{slice_get}
use Rattle.codes.specs.Matrix.{weight, column_at, row_at}
use Rattle.quasi_cyclic.specs.Entries.{line_row, quasi_cyclic, entry_fits, filled_squares}

pub record Line (a b z : ℕ) (es : List ℤ) (r : ℕ) (line : List ℤ) : Type 0 where
  pub some : 1 ≤ z
  pub small : z ≤ 512
  pub narrow : length line * z ≤ 512
  pub right : (k : ℕ) → k < length line → entry_fits z (slice_index_or line k (pos 0)) ≡ true
  pub wide : filled_squares line ≡ weight (quasi_cyclic a b z es) r
  pub places : (i : ℕ) → slice_get (line_row z r 0 line) i ≡ column_at (quasi_cyclic a b z es) r i
  pub row : line_row z r 0 line ≡ row_at (quasi_cyclic a b z es) r

-- What a parity-check code means: a width and rows, each a list of columns.
--
--   Matrix        the width and the rows
--   row_at        row r, empty where r is no row
--   height, weight, ones, column_at, holds    what the questions to a code answer
--   member        whether a column is listed
--   Apart         pairwise different
--   Row, Lawful   what every code keeps: its bounds, and each row different columns below the width
use Rattle.std.specs.Prelude.{◌≡◌, ℕ, ◌<◌, ◌≤◌, Bool, false, ◌||◌, List, [], ◌∷◌, length, sum_by, Option, ◌==◌, slice_index_or}
use Rattle.std.specs.List.{slice_get, AllByRecursion}

pub record Matrix : Type 0 where
  pub width : ℕ
  pub rows : List (List ℕ)

abbrev pub row_at : Matrix → ℕ → List ℕ
row_at k r = slice_index_or k.rows r []

abbrev pub height : Matrix → ℕ
height k = length k.rows

abbrev pub weight : Matrix → ℕ → ℕ
weight k r = length (row_at k r)

abbrev pub ones : Matrix → ℕ
ones k = sum_by length k.rows

abbrev pub column_at : Matrix → ℕ → ℕ → Option ℕ
column_at k r i = slice_get (row_at k r) i

abbrev pub member : ℕ → List ℕ → Bool
member c [] = false
member c (x ∷ xs) = x == c || member c xs

abbrev pub holds : Matrix → ℕ → ℕ → Bool
holds k r c = member c (row_at k r)

abbrev pub Apart : List ℕ → Type 0
Apart [] = Unit {0}
Apart (x ∷ xs) = (member x xs ≡ false) × Apart xs

pub record Row (n : ℕ) (row : List ℕ) : Type 0 where
  pub within : AllByRecursion (λ c. c < n) row
  pub apart : Apart row

pub record Lawful (k : Matrix) : Type 0 where
  pub some_column : 1 ≤ k.width
  pub few_columns : k.width ≤ 512
  pub some_row : 1 ≤ height k
  pub few_rows : height k ≤ 256
  pub few_ones : ones k ≤ 4096
  pub each : AllByRecursion (Row k.width) k.rows

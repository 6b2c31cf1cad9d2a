-- A matrix given row by row by a function.
--
--   table            the matrix of m rows and n columns whose row r is f r
--   table_at, table_past, table_height, table_ones    what it answers (lemmas)
--   table_lawful     when it keeps the rules of every code (a lemma)
use Rattle.std.specs.Prelude.{◌≡◌, ℕ, ◌<◌, ◌≤◌, List, [], map, length, slice_index}
use Rattle.std.proofs.Common.{arith}
use Rattle.std.specs.List.{range_with_len}
use Rattle.std.proofs.lemmas.List.FromFn.{length-map-range_with_len, get_or-map-range_with_len}
use Rattle.std.proofs.ByRecursion.{All-from_get_or, All-map}
use Rattle.std.proofs.lemmas.List.{get_or_past}
use Rattle.codes.specs.Matrix.{Matrix, Row, Lawful, row_at, height, ones}
use Rattle.codes.specs.Totals.{Σ, sum_by_counting}

abbrev pub table : ℕ → ℕ → (ℕ → List ℕ) → Matrix
table m n f = record { width = n; rows = map f (range_with_len 0 m) }

module _ (m n : ℕ) (f : ℕ → List ℕ) where
  pub table_at : (r : ℕ) → r < m → row_at (table m n f) r ≡ f r
  table_at r h = get_or-map-range_with_len f 0 m r r [] h (omega arith)

  pub table_height : height (table m n f) ≡ m
  table_height = length-map-range_with_len f 0 m

  pub table_past : (r : ℕ) → m ≤ r → row_at (table m n f) r ≡ []
  table_past r h = get_or_past (map f (range_with_len 0 m)) r [] (omega (arith, table_height))

  pub table_ones : ones (table m n f) ≡ Σ (λ r. length (f r)) 0 m
  table_ones = sum_by_counting length f 0 m

  pub table_lawful : 1 ≤ m → m ≤ 256 → 1 ≤ n → n ≤ 512 → ones (table m n f) ≤ 4096 → ((r : ℕ) → Row n (f r)) → Lawful (table m n f)
  table_lawful some_m few_m some_n few_n few each = record {
    some_column = some_n;
    few_columns = few_n;
    some_row = omega (arith, table_height);
    few_rows = omega (arith, table_height);
    few_ones = few;
    each = All-map (Row n) f (range_with_len 0 m) (All-from_get_or (λ r. Row n (f r)) (range_with_len 0 m) 0 (λ i _. each (slice_index (range_with_len 0 m) i)));
  }

-- A row read column by column.
--
--   columns_left     the columns of its row that an iterator has still to give
use Rattle.std.specs.Prelude.{ℕ, List, drop}
use Rattle.codes.specs.Matrix.{Matrix, row_at}
use Rattle.codes.specs.declared.row.RowColumns.{RowColumns}

abbrev pub columns_left : {C : Type 0} → (C → Matrix) → RowColumns C → List ℕ
columns_left matrix s = drop s.next (row_at (matrix s.code.now) s.r)

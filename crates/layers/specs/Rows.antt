-- Where a stacked code's rows come from.
--
--   Found         row r of the stacked code is this row of the second code, or row r of the first
use Rattle.std.specs.Prelude.{◌≡◌, ℕ, Option, Some, None}
use Rattle.codes.specs.Matrix.{Matrix, row_at}
use Rattle.layers.specs.Layers.{stacked}

abbrev pub Found : Matrix → Matrix → ℕ → Option ℕ → Type 0
Found k l r (Some s) = row_at (stacked k l) r ≡ row_at l s
Found k l r None = row_at (stacked k l) r ≡ row_at k r

-- What a layer over other codes means. One that does not fit means its first or only code.
--
--   turn               place x * q + y, with x below p and y below q, becomes place x + y * p; places from p * q on stay
--   squares_fit        whether a code's sizes are those of a x b squares, each of z rows and z columns
--   interleaved_row    row r of the interleaved code: the row that becomes row r, its columns turned, in their order
--   interleaved        the code with its rows and its columns turned
--   shapes_fit         whether codes of these sizes may be stacked: equal columns, and together within the bounds
--   stack_fits, stacked    the rows of the first code, then those of the second
--   Fitted             the answer of a layer's making: the layer where it fits, and else a refusal by its shape
use Rattle.std.specs.Prelude.{◌≡◌, ℕ, ◌+◌, ◌*◌, ◌/◌, ◌%◌, Bool, true, false, cond, ◌&&◌, List, ◌++◌, map, Ok, Err, Result, ◌==◌, nat_le, nat_lt}
use Rattle.codes.specs.Matrix.{Matrix, row_at, height}
use Rattle.codes.specs.Refusals.{meaning, bad_shape}
use Rattle.codes.specs.Shapes.{shape_of}
use Rattle.codes.specs.Tables.{table}
use Rattle.codes.specs.declared.refusal.Refusal.{Refusal}
use Rattle.codes.specs.declared.shape.Shape.{Shape}

abbrev pub turn : ℕ → ℕ → ℕ → ℕ
turn p q i = cond (nat_lt i (p * q)) (i / q + i % q * p) i

abbrev pub squares_fit : ℕ → ℕ → ℕ → Shape → Bool
squares_fit a b z s = s.rows == a * z && s.columns == b * z

abbrev pub interleaved_row : ℕ → ℕ → ℕ → Matrix → ℕ → List ℕ
interleaved_row a b z k r = map (turn b z) (row_at k (turn z a r))

abbrev pub interleaved : ℕ → ℕ → ℕ → Matrix → Matrix
interleaved a b z k = cond (squares_fit a b z (shape_of k)) (table (height k) k.width (interleaved_row a b z k)) k

abbrev pub shapes_fit : Shape → Shape → Bool
shapes_fit s t = s.columns == t.columns && (nat_le (s.rows + t.rows) 256 && nat_le (s.ones + t.ones) 4096)

abbrev pub stack_fits : Matrix → Matrix → Bool
stack_fits k l = shapes_fit (shape_of k) (shape_of l)

abbrev pub stacked : Matrix → Matrix → Matrix
stacked k l = cond (stack_fits k l) (record { width = k.width; rows = k.rows ++ l.rows }) k

abbrev pub Fitted : {A : Type 0} → Bool → (A → Type 0) → Result A Refusal → Type 0
Fitted fits Is (Ok x) = (fits ≡ true) × Is x
Fitted fits Is (Err e) = (fits ≡ false) × (meaning e ≡ bad_shape)

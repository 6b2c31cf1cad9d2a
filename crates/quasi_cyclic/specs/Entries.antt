-- A quasi-cyclic code: what its base entries mean, and which entries may be one.
--
--   shift_of         the shift of an entry's square, none where the square is empty
--   filled           the ones in each row of a square
--   turned           the column that row r holds within a square of shift s
--   square_row       what row r holds of a square that begins at column `start`
--   line_row         what row r holds of squares side by side
--   line_of          the base entries of the squares side by side that hold row r
--   quasi_cyclic     the matrix of a x b squares, each of z rows and z columns
--   base_fits        whether a code may have these sizes and a list of so many entries
--   entry_fits       whether an entry keeps its rule: from -1 to z - 1
--   first_bad_entry  the place of the first entry that breaks its rule, where the list begins at place i
--   filled_squares   how many squares are not empty
--   judged_entries   the answer of a making
use Rattle.std.specs.Prelude.{ℕ, ◌+◌, ◌*◌, ◌/◌, ◌%◌, Bool, cond, ◌&&◌, List, [], ◌∷◌, ◌++◌, length, take, drop, ℤ, pos, negsuc, Some, None, sum_by, Option, Result, ◌==◌, nat_le, nat_lt}
use Rattle.codes.specs.Matrix.{Matrix}
use Rattle.codes.specs.Refusals.{Cause, judged}
use Rattle.codes.specs.Tables.{table}

abbrev pub shift_of : ℤ → Option ℕ
shift_of (pos s) = Some s
shift_of (negsuc k) = None

abbrev pub filled : Option ℕ → ℕ
filled (Some s) = 1
filled None = 0

abbrev pub turned : ℕ → ℕ → ℕ → ℕ
turned z r s = (r % z + s) % z

abbrev pub square_row : ℕ → ℕ → ℕ → Option ℕ → List ℕ
square_row z r start (Some s) = (start + turned z r s) ∷ []
square_row z r start None = []

abbrev pub line_row : ℕ → ℕ → ℕ → List ℤ → List ℕ
line_row z r start [] = []
line_row z r start (e ∷ es) = square_row z r start (shift_of e) ++ line_row z r (start + z) es

abbrev pub line_of : ℕ → ℕ → List ℤ → ℕ → List ℤ
line_of b z es r = take b (drop (r / z * b) es)

abbrev pub quasi_cyclic : ℕ → ℕ → ℕ → List ℤ → Matrix
quasi_cyclic a b z es = table (a * z) (b * z) (λ r. line_row z r 0 (line_of b z es r))

abbrev pub base_fits : ℕ → ℕ → ℕ → ℕ → Bool
base_fits a b z len = (nat_le 1 a && (nat_le 1 b && nat_le 1 z)) && ((nat_le (a * z) 256 && nat_le (b * z) 512) && len == a * b)

abbrev pub entry_fits : ℕ → ℤ → Bool
entry_fits z (pos s) = nat_lt s z
entry_fits z (negsuc k) = k == 0

abbrev pub first_bad_entry : ℕ → ℕ → List ℤ → Option ℕ
first_bad_entry z i [] = None
first_bad_entry z i (e ∷ es) = cond (entry_fits z e) (first_bad_entry z (i + 1) es) (Some i)

abbrev pub filled_squares : List ℤ → ℕ
filled_squares es = sum_by (λ e. filled (shift_of e)) es

abbrev pub judged_entries : ℕ → ℕ → ℕ → List ℤ → Result (Unit {0}) Cause
judged_entries a b z es = judged (base_fits a b z (length es)) (first_bad_entry z 0 es) (filled_squares es * z)

-- A listed code: what its records mean, and which records may be one.
--
--   columns_of       the columns of row r, in the order of the records
--   listed           the matrix of m rows and n columns that records give
--   sizes_fit        whether a code may have m rows and n columns
--   precedes         whether one record stands before another: by row, then by column
--   follows          whether a record may come next after the last one
--   good             whether a record keeps its rule: below m and n, and after the last one
--   first_bad        the place of the first record that breaks its rule, where the list begins at place i
--   judged_records   the answer of a making
--   row_of, column_of    the row and the column of the record at place i
--   lower            how many records stand before the first that is not of a row below r
--   begins_at        whether the numbers listed tell, from row r on, where each row begins
--   Parts            p parts the records of rows below r from the others
--   Start            so row r begins at p, and ends where that of row r + 1 begins
use Rattle.std.specs.Prelude.{◌≡◌, ℕ, ◌+◌, ◌-◌, ◌<◌, ◌≤◌, Bool, true, cond, ◌&&◌, ◌||◌, List, [], ◌∷◌, map, length, Some, None, filter, Option, Result, ◌==◌, ◌≢◌, nat_eq, nat_le, nat_lt, slice_index_or}
use Rattle.codes.specs.declared.record.Record.{Record}
use Rattle.codes.specs.Matrix.{Matrix, weight, column_at}
use Rattle.codes.specs.Refusals.{Cause, judged}
use Rattle.codes.specs.Tables.{table}

abbrev pub columns_of : List Record → ℕ → List ℕ
columns_of rs r = map (λ k. k.column) (filter (λ k. nat_eq k.row r) rs)

abbrev pub listed : ℕ → ℕ → List Record → Matrix
listed m n rs = table m n (columns_of rs)

abbrev pub sizes_fit : ℕ → ℕ → Bool
sizes_fit m n = (nat_le 1 m && nat_le m 256) && (nat_le 1 n && nat_le n 512)

abbrev pub precedes : Record → Record → Bool
precedes j k = nat_lt j.row k.row || (j.row == k.row && nat_lt j.column k.column)

abbrev pub follows : Option Record → Record → Bool
follows None k = true
follows (Some j) k = precedes j k

abbrev pub good : ℕ → ℕ → Option Record → Record → Bool
good m n last k = nat_lt k.row m && (nat_lt k.column n && follows last k)

abbrev pub first_bad : ℕ → ℕ → Option Record → ℕ → List Record → Option ℕ
first_bad m n last i [] = None
first_bad m n last i (k ∷ ks) = cond (good m n last k) (first_bad m n (Some k) (i + 1) ks) (Some i)

abbrev pub judged_records : ℕ → ℕ → List Record → Result (Unit {0}) Cause
judged_records m n rs = judged (sizes_fit m n) (first_bad m n None 0 rs) (length rs)

abbrev pub row_of : List Record → ℕ → ℕ
row_of rs i = (slice_index_or rs i (record { row = 0; column = 0 })).row

abbrev pub column_of : List Record → ℕ → ℕ
column_of rs i = (slice_index_or rs i (record { row = 0; column = 0 })).column

abbrev pub lower : List Record → ℕ → ℕ
lower [] r = 0
lower (k ∷ ks) r = cond (nat_lt k.row r) (lower ks r + 1) 0

abbrev pub begins_at : List Record → ℕ → List ℕ → Bool
begins_at rs r [] = true
begins_at rs r (p ∷ ps) = p == lower rs r && begins_at rs (r + 1) ps

pub record Parts (rs : List Record) (r p : ℕ) : Type 0 where
  pub within : p ≤ length rs
  pub before : (k : ℕ) → k < p → row_of rs k < r
  pub after : (k : ℕ) → p ≤ k → k < length rs → r ≤ row_of rs k

pub record Start (m n : ℕ) (rs : List Record) (r p : ℕ) : Type 0 where
  pub parts : Parts rs r p
  pub up_to : (q : ℕ) → Parts rs (r + 1) q → p ≤ q
  pub wide : (q : ℕ) → Parts rs (r + 1) q → r < m → q - p ≡ weight (listed m n rs) r
  pub past : m ≤ r → weight (listed m n rs) r ≡ 0
  pub found : (i : ℕ) → p + i < length rs → row_of rs (p + i) ≡ r → column_at (listed m n rs) r i ≡ Some (column_of rs (p + i))
  pub other : (i : ℕ) → p + i < length rs → (row_of rs (p + i) ≢ r) → column_at (listed m n rs) r i ≡ None
  pub ended : (i : ℕ) → length rs ≤ p + i → column_at (listed m n rs) r i ≡ None

-- What a row holds of each square that it crosses.
--
--   entry_at          the base entry of square x of the line that holds row r
--   columns_in        the columns of row r that lie in square x of its line
--   OneToASquare      a row holds exactly one column of each square that is not empty, and none of an empty one
use Rattle.std.specs.Prelude.{◌≡◌, ℕ, ◌+◌, ◌*◌, ◌/◌, ◌%◌, ◌<◌, List, [], ◌∷◌, ℤ, pos, negsuc, filter, nat_eq, slice_index_or}
use Rattle.codes.specs.Matrix.{Matrix, row_at}
use Rattle.quasi_cyclic.specs.Entries.{quasi_cyclic}

abbrev pub entry_at : ℕ → ℕ → List ℤ → ℕ → ℕ → ℤ
entry_at b z es r x = slice_index_or es (r / z * b + x) (negsuc 0)

abbrev pub columns_in : Matrix → ℕ → ℕ → ℕ → List ℕ
columns_in k z r x = filter (λ c. nat_eq (c / z) x) (row_at k r)

pub record OneToASquare (a b z : ℕ) (es : List ℤ) : Type 0 where
  pub one : (r x s : ℕ) → r < a * z → x < b → entry_at b z es r x ≡ pos s → columns_in (quasi_cyclic a b z es) z r x ≡ (x * z + (r % z + s) % z) ∷ []
  pub none : (r x : ℕ) → r < a * z → x < b → entry_at b z es r x ≡ negsuc 0 → columns_in (quasi_cyclic a b z es) z r x ≡ []

-- The code of one row that holds every column.
--
--   parity_matrix what it means
--   may_have      whether a code may have so many columns
use Rattle.std.specs.Prelude.{ℕ, Bool, ◌&&◌, [], ◌∷◌, nat_le}
use Rattle.std.specs.List.{range_with_len}
use Rattle.codes.specs.Matrix.{Matrix}

abbrev pub parity_matrix : ℕ → Matrix
parity_matrix n = record { width = n; rows = range_with_len 0 n ∷ [] }

abbrev pub may_have : ℕ → Bool
may_have n = nat_le 1 n && nat_le n 512

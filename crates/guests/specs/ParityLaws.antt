-- A row of every column keeps the rules of every code. (Lemmas: nothing here is to be believed.)
--
--   above, below, apart    of numbers from a on: above all below a, below their end, pairwise different
--   parity_lawful          so the code of one such row is lawful
use Rattle.std.specs.Prelude.{ℕ, zero, suc, ◌+◌, ◌<◌, ◌≤◌}
use Rattle.std.proofs.Common.{arith}
use Rattle.std.specs.List.{AllByRecursion, range_with_len}
use Rattle.std.proofs.lemmas.List.FromFn.{length-range_with_len}
use Rattle.codes.specs.Matrix.{Apart, Lawful}
use Rattle.codes.specs.MatrixLaws.{not_member}
use Rattle.guests.specs.Parities.{parity_matrix}

above : (a b n : ℕ) → b < a → AllByRecursion (λ c. b < c) (range_with_len a n)
above a b zero l = tt
above a b (suc n) l = (l, above (a + 1) b n (omega arith))

below : (a n m : ℕ) → a + n ≤ m → AllByRecursion (λ c. c < m) (range_with_len a n)
below a zero m l = tt
below a (suc n) m l = (omega arith, below (a + 1) n m (omega arith))

apart : (a n : ℕ) → Apart (range_with_len a n)
apart a zero = tt
apart a (suc n) = (not_member a (range_with_len (a + 1) n) (above (a + 1) a n (omega arith)), apart (a + 1) n)

pub parity_lawful : (n : ℕ) → 1 ≤ n → n ≤ 512 → Lawful (parity_matrix n)
parity_lawful n some few = record {
  some_column = some;
  few_columns = few;
  some_row = omega arith;
  few_rows = omega arith;
  few_ones = omega (arith, length-range_with_len 0 n);
  each = (record { within = below 0 n n (omega arith); apart = apart 0 n }, tt);
}

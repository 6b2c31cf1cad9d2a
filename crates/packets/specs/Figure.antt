-- The reception figure of a block.
--
--   percent       received of n in whole percent, rounded down, and 0 at n = 0
--   Between       f percent of n is at most what was received, and one percent more is above it
--   IsFigure      the figure lies between, and it alone does; it is 0 where n is
use Rattle.std.specs.Prelude.{◌≡◌, ℕ, ◌+◌, ◌*◌, ◌/◌, ◌<◌, ◌≤◌, cond, ◌==◌}

abbrev pub percent : ℕ → ℕ → ℕ
percent received n = cond (n == 0) 0 (received * 100 / n)

abbrev pub Between : ℕ → ℕ → ℕ → Type 0
Between received n f = (f * n ≤ received * 100) × (received * 100 < (f + 1) * n)

pub record IsFigure (received n figure : ℕ) : Type 0 where
  pub none : n ≡ 0 → figure ≡ 0
  pub between : 0 < n → Between received n figure
  pub one : (f : ℕ) → Between received n f → f ≡ figure

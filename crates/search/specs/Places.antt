-- The row used for a column.
--
--   Place         the lowest row from `low` on, below m, that is used for c; none where there is none
--   Placed        that row for each column
use Rattle.std.specs.Prelude.{◌≡◌, ℕ, ◌<◌, ◌≤◌, Bool, true, false, List, length, Some, None, Option, slice_index_or}
use Rattle.method.specs.Method.{used_for}
use Rattle.search.specs.declared.uses.Uses.{Uses}
use Rattle.search.specs.View.{use_of}

-- whether row q is used for c
abbrev pub uses_for : Uses → ℕ → ℕ → Bool
uses_for u c q = used_for c (use_of u q)

abbrev pub Place : Uses → (low m : ℕ) → ℕ → Option ℕ → Type 0
Place u low m c None = (q : ℕ) → low ≤ q → q < m → uses_for u c q ≡ false
Place u low m c (Some r) = (low ≤ r) × (r < m) × (uses_for u c r ≡ true) × ((q : ℕ) → low ≤ q → q < r → uses_for u c q ≡ false)

pub record Placed (u : Uses) (low m : ℕ) (rows : List (Option ℕ)) : Type 0 where
  pub long : length rows ≡ 512
  pub each : (c : ℕ) → c < 512 → Place u low m c (slice_index_or rows c None)

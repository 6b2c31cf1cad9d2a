-- The rows of working memory: those kept for each column, and one row added to others.
--
--   holding       whether row q holds a column
--   keeps         whether the rows kept for a column have row q: bit 256 c + q
--   Noted         row r kept for each column of a set, and nothing else changed
--   KeptBelow     of the rows below i, those kept for a column are those that hold it; no other is kept
--   Kept          the same of all m rows, and of the active columns
--   Added         row r added to each row of a set, in the words and in the right sides
use Rattle.std.specs.Prelude.{◌≡◌, ℕ, ◌+◌, ◌*◌, ◌<◌, ◌≤◌, Bool, true, false, cond, List, ◌≢◌, slice_index_or}
use Rattle.bits.specs.Sets.{holds, xors, row}
use Rattle.method.specs.Sets.{has}

abbrev pub holding : List ℕ → ℕ → ℕ → Bool
holding ws c q = holds (row ws q) c

abbrev pub keeps : List ℕ → ℕ → ℕ → Bool
keeps ks c q = holds ks (256 * c + q)

pub record Noted (ks ks' : List ℕ) (r : ℕ) (line : List ℕ) : Type 0 where
  pub here : (c : ℕ) → keeps ks' c r ≡ holds line c
  pub others : (c q : ℕ) → q < 256 → (q ≢ r) → keeps ks' c q ≡ keeps ks c q

pub record KeptBelow (ks ws : List ℕ) (i : ℕ) : Type 0 where
  pub each : (c q : ℕ) → q < i → keeps ks c q ≡ holding ws c q
  pub none : (c q : ℕ) → i ≤ q → q < 256 → keeps ks c q ≡ false

pub record Kept (ks ws : List ℕ) (m : ℕ) (active : List Bool) : Type 0 where
  pub each : (c q : ℕ) → has active c ≡ true → q < m → keeps ks c q ≡ holding ws c q
  pub none : (c q : ℕ) → m ≤ q → q < 256 → keeps ks c q ≡ false

pub record Added {S : Type 0} (sum : S → S → S) (others : List Bool) (r : ℕ) (ws ws' : List ℕ) (ss ss' : List S) : Type 0 where
  pub rows : (q : ℕ) → row ws' q ≡ cond (has others q) (xors (row ws q) (row ws r)) (row ws q)
  pub sides : (q : ℕ) (d : S) → slice_index_or ss' q d ≡ cond (has others q) (sum (slice_index_or ss q d) (slice_index_or ss r d)) (slice_index_or ss q d)

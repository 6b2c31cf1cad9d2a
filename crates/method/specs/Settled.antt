-- What a search has come to at its end.
--
--   Used          row r is used for column c
--   Settled       no column is active; an unused row is empty; a used row holds its own column, which no other row holds,
--                 and beside it free pivots only; each missing place is free or the own column of just one row
use Rattle.std.specs.Prelude.{◌≡◌, ℕ, Bool, true, false, ◌≢◌, ◌⊎◌, List, Some, None}
use Rattle.symbols.specs.Kinds.{Kind}
use Rattle.codes.specs.Matrix.{member, Apart}
use Rattle.method.specs.Sets.{has}
use Rattle.method.specs.Method.{Row, State, row_of, row_holds}
use Rattle.method.specs.Fillings.{No, One}

abbrev pub Used : {S : Type 0} → Kind S → List (Row S) → ℕ → ℕ → Type 0
Used K rows c r = (row_of K rows r).used ≡ Some c

pub record Settled {S P : Type 0} (K : Kind S) (missing : List Bool) (s : State S P) : Type 0 where
  pub idle : (c : ℕ) → has s.active c ≡ false
  pub unused_empty : (r : ℕ) → (row_of K s.rows r).used ≡ None → (c : ℕ) → row_holds c (row_of K s.rows r) ≡ false
  pub holds_own : (r c : ℕ) → Used K s.rows c r → row_holds c (row_of K s.rows r) ≡ true
  pub own_alone : (r c : ℕ) → Used K s.rows c r → (i : ℕ) → i ≢ r → row_holds c (row_of K s.rows i) ≡ false
  pub holds_free : (r c : ℕ) → Used K s.rows c r → (d : ℕ) → d ≢ c → row_holds d (row_of K s.rows r) ≡ true → member d s.free ≡ true
  pub free_apart : Apart s.free
  pub free_missing : (c : ℕ) → member c s.free ≡ true → has missing c ≡ true
  pub used_missing : (r c : ℕ) → Used K s.rows c r → has missing c ≡ true
  pub free_or_used : (c : ℕ) → has missing c ≡ true
      → ((member c s.free ≡ true) × No (Used K s.rows c)) ⊎ ((member c s.free ≡ false) × One (Used K s.rows c))

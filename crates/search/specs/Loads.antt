-- Rows loaded from a code and a table.
--
--   Read          one row read: its missing columns, how many they are, and the sum of its received symbols
--   Loaded        the rows below i loaded
--   singles       the rows below m with a count of one
--   Begun         nothing done yet: the missing places are active, and no row is used
use Rattle.std.specs.Prelude.{◌≡◌, ℕ, ◌<◌, Bool, true, List, [], map, length, take, replicate, ◌==◌, slice_index, slice_index_or}
use Rattle.std.specs.List.{range_with_len}
use Rattle.bits.specs.Sets.{row}
use Rattle.symbols.specs.Kinds.{Kind}
use Rattle.codes.specs.Matrix.{Matrix, row_at}
use Rattle.method.specs.Sets.{marked}
use Rattle.method.specs.Method.{missing, start_row}
use Rattle.policies.specs.Shown.{marks_of, shown}
use Rattle.search.specs.declared.elimination.Elimination.{Elimination}
use Rattle.search.specs.Searches.{marks_in}

pub record Read {S : Type 0} (K : Kind S) (k : Matrix) (received : List Bool) (table : List S) (r : ℕ) (line : List ℕ) (side : S) (some : ℕ) : Type 0 where
  pub eight : length line ≡ 8
  pub cols : marks_of k.width line ≡ (start_row K k.width (marks_in k received) table (row_at k r)).cols
  pub right : side ≡ (start_row K k.width (marks_in k received) table (row_at k r)).right
  pub many : some ≡ length (marked (missing (marks_in k received)) (row_at k r))

pub record Loaded {S : Type 0} (K : Kind S) (k : Matrix) (received : List Bool) (table : List S) (ws : List ℕ) (ss : List S) (counts : List ℕ) (i : ℕ) : Type 0 where
  pub all : length counts ≡ 256
  pub each : (q : ℕ) → q < i → Read K k received table q (row ws q) (slice_index_or ss q K.zero) (slice_index counts q)

-- whether a row has a count of one
abbrev pub single : List ℕ → ℕ → Bool
single counts q = slice_index counts q == 1

-- the rows below m with a count of one
abbrev pub singles : ℕ → List ℕ → List Bool
singles m counts = map (single counts) (range_with_len 0 m)

pub record Begun {S : Type 0} (n m : ℕ) (received : List Bool) (counts : List ℕ) (e : Elimination S) : Type 0 where
  pub active : shown e.active ≡ missing (take n received)
  pub unused : shown e.uses.unused ≡ replicate m true
  pub counted : e.tally.counts ≡ counts
  pub ready : shown e.tally.ready ≡ singles m counts
  pub pivots : e.pivots.items ≡ []
  pub free : e.free.items ≡ []
  pub additions : e.additions ≡ 0

-- What an elimination keeps, and what one step of it does.
--
--   SameMemory    the memory of an elimination stays the same
--   Room          what its count of additions has room for, and no pivot is free
--   Tallied       the tally of the rows: how many active columns each has, and which are ready
--   Going         an elimination that peels
--   Ready         the lowest ready row, with its one active column; none where no row is ready
--   Lowered       the tally of rows of which some have one active column fewer
--   Moved, Ended  one step further; nothing left to do
--   settled       a state with each of its pivots settled
use Rattle.std.specs.Prelude.{◌≡◌, ℕ, suc, ◌+◌, ◌*◌, ◌<◌, ◌≤◌, Bool, true, cond, ◌&&◌, List, map, length, Some, None, Option, ◌==◌, slice_index}
use Rattle.symbols.specs.Kinds.{Kind}
use Rattle.method.specs.Sets.{has, bump, meet, count, lowest}
use Rattle.method.specs.Method.{Row, State, Choice, ready, only_column, row_of, step, settle}
use Rattle.policies.specs.Shown.{shown}
use Rattle.search.specs.declared.tally.Tally.{Tally}
use Rattle.search.specs.declared.elimination.Elimination.{Elimination}
use Rattle.search.specs.Rows.{Kept}
use Rattle.search.specs.View.{rows_of}

-- the caller's memory is still the same, whatever stands in it
pub record SameMemory {S : Type 0} (e e' : Elimination S) : Type 0 where
  pub words : e'.words.ghost_name ≡ e.words.ghost_name
  pub sides : e'.sides.ghost_name ≡ e.sides.ghost_name
  pub long : length e'.words.now ≡ length e.words.now
  pub high : length e'.sides.now ≡ length e.sides.now

-- each active column may still be added to all rows, and no pivot is free yet
pub record Room {S : Type 0} (e : Elimination S) : Type 0 where
  pub added : e.additions + 256 * count (shown e.active) ≤ 131072
  pub unfreed : length e.free.items ≡ 0

pub record Tallied {S : Type 0} (K : Kind S) (rows : List (Row S)) (active : List Bool) (t : Tally) : Type 0 where
  pub counts : (q : ℕ) → q < length rows → slice_index t.counts q ≡ count (meet (row_of K rows q).cols active)
  pub readies : shown t.ready ≡ map (ready active) rows

pub record Going {S : Type 0} (K : Kind S) (e : Elimination S) : Type 0 where
  pub room : Room e
  pub tallied : Tallied K (rows_of K e) (shown e.active) e.tally
  pub kept : Kept e.kept.now e.words.now (length e.sides.now) (shown e.active)

pub record Lone {S : Type 0} (K : Kind S) (active : List Bool) (rows : List (Row S)) (r c : ℕ) : Type 0 where
  pub row : lowest (ready active) rows ≡ Some r
  pub only : only_column active (row_of K rows r) ≡ c
  pub within : r < length rows
  pub is_active : has active c ≡ true

abbrev pub Ready : {S : Type 0} → Kind S → List Bool → List (Row S) → Option (ℕ × ℕ) → Type 0
Ready K active rows None = lowest (ready active) rows ≡ None
Ready K active rows (Some rc) = Lone K active rows rc.0 rc.1

pub record Lowered (held unused : List Bool) (t t' : Tally) : Type 0 where
  pub counts : (q : ℕ) → bump (has held q) (slice_index t'.counts q) ≡ slice_index t.counts q
  pub readies : (q : ℕ) → has (shown t'.ready) q ≡ cond (has held q) (has unused q && slice_index t'.counts q == 1) (has (shown t.ready) q)
  pub wide : t'.ready.width ≡ t.ready.width

pub record Moved {S P : Type 0} (K : Kind S) (choice : Choice P) (x y : State S P) : Type 0 where
  pub is : y ≡ step K choice x
  pub fewer : suc (count y.active) ≡ count x.active

pub record Ended {S P : Type 0} (x y : State S P) : Type 0 where
  pub same : y ≡ x
  pub idle : count x.active ≡ 0

abbrev pub settled : {S P : Type 0} → Kind S → State S P → State S P
settled K s = settle K s.pivots s

-- An elimination as the method's state.
--
--   use_of        what a row is used for
--   line, lines   row q, and all rows, in the words and the right sides
--   rows_of       the rows of an elimination
--   view          its state
--   bare          the state without a policy's
--   with_policy   a state with this as the policy's
use Rattle.std.specs.Prelude.{ℕ, Bool, true, false, List, map, length, Some, None, Option, slice_index, slice_index_or}
use Rattle.std.specs.List.{range_with_len}
use Rattle.bits.specs.Sets.{row}
use Rattle.symbols.specs.Kinds.{Kind}
use Rattle.method.specs.Sets.{has}
use Rattle.method.specs.Method.{Row, State}
use Rattle.policies.specs.Shown.{marks_of, shown}
use Rattle.search.specs.declared.uses.Uses.{Uses}
use Rattle.search.specs.declared.elimination.Elimination.{Elimination}

abbrev pub used_if : Bool → ℕ → Option ℕ
used_if true c = None
used_if false c = Some c

abbrev pub use_of : Uses → ℕ → Option ℕ
use_of u q = used_if (has (shown u.unused) q) (slice_index u.columns q)

abbrev pub line : {S : Type 0} → Kind S → ℕ → List ℕ → List S → Uses → ℕ → Row S
line K n ws ss u q = record { cols = marks_of n (row ws q); right = slice_index_or ss q K.zero; used = use_of u q }

abbrev pub lines : {S : Type 0} → Kind S → ℕ → List ℕ → List S → Uses → List (Row S)
lines K n ws ss u = map (line K n ws ss u) (range_with_len 0 (length ss))

abbrev pub rows_of : {S : Type 0} → Kind S → Elimination S → List (Row S)
rows_of K e = lines K e.active.width e.words.now e.sides.now e.uses

abbrev pub view : {S P : Type 0} → Kind S → Elimination S → P → State S P
view K e p = record {
  rows = rows_of K e;
  active = shown e.active;
  pivots = e.pivots.items;
  free = e.free.items;
  additions = e.additions;
  policy = p;
}

abbrev pub bare : {S : Type 0} → Kind S → Elimination S → State S (Unit {0})
bare K e = view K e tt

abbrev pub with_policy : {S P Q : Type 0} → Q → State S P → State S Q
with_policy q s = record {
  rows = s.rows;
  active = s.active;
  pivots = s.pivots;
  free = s.free;
  additions = s.additions;
  policy = q;
}

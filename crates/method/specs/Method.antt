-- The elimination method: peeling, pivots named by a policy, and a row for each pivot.
--
--   Row           a row: its columns still to be found, its right side, and the column that it is used for
--   State         a search under way; its last part is the policy's own state
--   Choice        a policy: from its state, the active columns and the unused rows, the column named and the next state
--   Outcome       what a search answers: none, one or several, with the counts of its work
--   start         each row with its missing columns and the sum of its received symbols; every missing column active
--   step          a row with just one active column is used for it; where there is none, the policy names a pivot
--   steps         so many steps; as many as there are columns suffice, since each takes an active column away
--   settle        each pivot in turn takes the lowest unused row that holds it, or is free
--   final         the state at the end
--   answer        none if an unused row's right side is not zero, several if a pivot is free, else the filling
--   method        the answer of a whole search
use Rattle.std.specs.Prelude.{ℕ, zero, suc, ◌+◌, Bool, true, false, cond, not, ◌&&◌, List, [], ◌∷◌, ◌++◌, map, length, Some, None, Option, ◌==◌, slice_index_or, slice_set}
use Rattle.symbols.specs.Kinds.{Kind}
use Rattle.symbols.specs.Sums.{sum_at}
use Rattle.codes.specs.Matrix.{Matrix}
use Rattle.method.specs.Sets.{has, sym_diff, meet, count, lowest, or_else, table, marks, marked}

pub record Row (S : Type 0) : Type 0 where
  pub cols : List Bool
  pub right : S
  pub used : Option ℕ

pub record State (S : Type 0) (P : Type 0) : Type 0 where
  pub rows : List (Row S)
  pub active : List Bool
  pub pivots : List ℕ
  pub free : List ℕ
  pub additions : ℕ
  pub policy : P

abbrev pub Choice : Type 0 → Type 0
Choice P = P → List Bool → List Bool → Option ℕ × P

pub data Outcome (S : Type 0) : Type 0 where
  none : (pivots additions : ℕ) → Outcome S
  one : (pivots additions : ℕ) (filling : List S) → Outcome S
  several : (pivots additions shortfall : ℕ) → Outcome S

-- the places not received
abbrev pub missing : List Bool → List Bool
missing got = map not got

-- a row's use: none, or for c
abbrev pub is_none : Option ℕ → Bool
is_none None = true
is_none (Some c) = false

abbrev pub used_for : ℕ → Option ℕ → Bool
used_for c None = false
used_for c (Some d) = d == c

abbrev pub row_holds : {S : Type 0} → ℕ → Row S → Bool
row_holds c q = has q.cols c

abbrev pub unused : {S : Type 0} → Row S → Bool
unused q = is_none q.used

abbrev pub taken_for : {S : Type 0} → ℕ → Row S → Row S
taken_for c q = record { cols = q.cols; right = q.right; used = Some c }

-- an unused row with just one active column, and that column
abbrev pub ready : {S : Type 0} → List Bool → Row S → Bool
ready active q = unused q && count (meet q.cols active) == 1

abbrev pub only_column : {S : Type 0} → List Bool → Row S → ℕ
only_column active q = or_else (lowest (λ b. b) (meet q.cols active)) 0

-- an unused row that holds c
abbrev pub holder : {S : Type 0} → ℕ → Row S → Bool
holder c q = unused q && row_holds c q

-- the pivot named, if any, with the policy's next state
abbrev pub named : {S P : Type 0} → Option ℕ → P → State S P → State S P
named None p s = record {
  rows = s.rows;
  active = s.active;
  pivots = s.pivots;
  free = s.free;
  additions = s.additions;
  policy = p;
}
named (Some c) p s = record {
  rows = s.rows;
  active = slice_set s.active c false;
  pivots = s.pivots ++ c ∷ [];
  free = s.free;
  additions = s.additions;
  policy = p;
}

-- a pivot that no unused row holds
abbrev pub freed : {S P : Type 0} → ℕ → State S P → State S P
freed c s = record {
  rows = s.rows;
  active = s.active;
  pivots = s.pivots;
  free = s.free ++ c ∷ [];
  additions = s.additions;
  policy = s.policy;
}

-- the answer by the free pivots, and before that by the lowest row that clashes, if any
abbrev pub answer_free : {S : Type 0} → ℕ → ℕ → List ℕ → List S → Outcome S
answer_free p a [] w = one p a w
answer_free p a (f ∷ fs) w = several p a (length (f ∷ fs))

abbrev pub answer_at : {S : Type 0} → Option ℕ → ℕ → ℕ → List ℕ → List S → Outcome S
answer_at (Some r) p a free w = none p a
answer_at None p a free w = answer_free p a free w

module _ {S : Type 0} (K : Kind S) where
  abbrev pub blank : Row S
  blank = record { cols = []; right = K.zero; used = None }

  -- row r, blank where r is no row
  abbrev pub row_of : List (Row S) → ℕ → Row S
  row_of rows r = slice_index_or rows r blank

  -- the row p added to the row q
  abbrev pub added : Row S → Row S → Row S
  added p q = record { cols = sym_diff q.cols p.cols; right = K.sum q.right p.right; used = q.used }

  abbrev pub added_if : Bool → Row S → Row S → Row S
  added_if true p q = added p q
  added_if false p q = q

  -- row r becomes used for c and is added to every other row that holds c
  abbrev pub use_row : ℕ → ℕ → List (Row S) → List (Row S)
  use_row r c rows =
      let p : Row S = row_of rows r in
      slice_set (map (λ q. added_if (row_holds c q) p q) rows) r (taken_for c p)

  -- how many rows other than r hold c
  abbrev pub others : ℕ → ℕ → List (Row S) → ℕ
  others r c rows = count (map (row_holds c) (slice_set rows r blank))

  -- the row used for c, blank where there is none
  abbrev pub row_for : ℕ → List (Row S) → Row S
  row_for c [] = blank
  row_for c (q ∷ qs) = cond (used_for c q.used) q (row_for c qs)

  -- the received symbols, and at each missing place the right side of the row used for it
  abbrev pub filled : ℕ → List Bool → List S → List (Row S) → List S
  filled n got syms rows = table n (λ c. cond (has got c) (slice_index_or syms c K.zero) (row_for c rows).right)

  -- an unused row whose right side is not zero
  abbrev pub clash : Row S → Bool
  clash q = unused q && not (K.is_zero q.right)

  abbrev pub start_row : ℕ → List Bool → List S → List ℕ → Row S
  start_row n got syms row = record {
    cols = marks n (marked (missing got) row);
    right = sum_at K.zero K.sum syms (marked got row);
    used = None;
  }

  abbrev pub start_rows : Matrix → List Bool → List S → List (Row S)
  start_rows k got syms = map (start_row k.width got syms) k.rows

  module _ {P : Type 0} where
    -- row r is used for c, which is no longer active
    abbrev pub spend : ℕ → ℕ → State S P → State S P
    spend r c s = record {
      rows = use_row r c s.rows;
      active = slice_set s.active c false;
      pivots = s.pivots;
      free = s.free;
      additions = s.additions + others r c s.rows;
      policy = s.policy;
    }

    abbrev pub start : Matrix → List Bool → List S → P → State S P
    start k got syms p = record {
      rows = start_rows k got syms;
      active = missing got;
      pivots = [];
      free = [];
      additions = 0;
      policy = p;
    }

    module _ (choice : Choice P) where
      -- by the lowest row that is ready, or else by the policy
      abbrev pub step_at : Option ℕ → State S P → State S P
      step_at (Some r) s = spend r (only_column s.active (row_of s.rows r)) s
      step_at None s =
          let o : Option ℕ × P = choice s.policy s.active (map unused s.rows) in
          named o.0 o.1 s

      -- the policy is not asked once no column is active
      abbrev pub step_if : Bool → State S P → State S P
      step_if false s = s
      step_if true s = step_at (lowest (ready s.active) s.rows) s

      unfoldable pub step : State S P → State S P
      step s = step_if (not (count s.active == 0)) s

      unfoldable pub steps : ℕ → State S P → State S P
      steps zero s = s
      steps (suc j) s = steps j (step s)

    abbrev pub settle_at : ℕ → Option ℕ → State S P → State S P
    settle_at c (Some r) s = spend r c s
    settle_at c None s = freed c s

    unfoldable pub settle : List ℕ → State S P → State S P
    settle [] s = s
    settle (c ∷ cs) s = settle cs (settle_at c (lowest (holder c) s.rows) s)

    unfoldable pub final : Choice P → Matrix → List Bool → List S → P → State S P
    final choice k got syms p =
        let s : State S P = steps choice k.width (start k got syms p) in
        settle s.pivots s

    unfoldable pub answer : Matrix → List Bool → List S → State S P → Outcome S
    answer k got syms s =
        answer_at (lowest clash s.rows) (length s.pivots) s.additions s.free (filled k.width got syms s.rows)

    unfoldable pub method : Choice P → Matrix → List Bool → List S → P → Outcome S
    method choice k got syms p = answer k got syms (final choice k got syms p)

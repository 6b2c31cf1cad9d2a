-- A search keeps what every search keeps, step by step and to its end.
use Rattle.std.proofs.Common.{◌≡◌, ℕ, zero, suc, ◌-◌, ◌<◌, ◌≤◌, Bool, true, false, not, eqb, ◌≢◌, List, [], ◌∷◌, ◌++◌, map, length, set, Some, None, Option, sym, refl, ap, ◌∙◌, arith}
use lib.ListN.{length-map}
use Rattle.std.proofs.lemmas.Bool.{false≢true, and_parts, and_from, eqb-true, eqb-false}
use Rattle.symbols.specs.Kinds.{Kind, Laws}
use Rattle.codes.specs.Matrix.{Matrix, member}
use Rattle.method.specs.Sets.{has, meet, count, lowest, marked}
use Rattle.method.specs.Method.{Row, State, Choice, missing, is_none, row_holds, unused, ready, only_column, holder, named, row_of, blank, start_row, start_rows, start, step_at, step_if, step, steps, settle_at, settle, final}
use Rattle.method.specs.Choices.{Names, Naming}
use Rattle.method.proofs.Marks.{none_some, has_meet, marks_in, member_marked, clear_keeps, lowest_some, lowest_none}
use Rattle.method.proofs.Counts.{num, occ, occ_push, used_count, has_clear, count_clear, count_none, none_count, count_le, lowest_in, only_one}
use Rattle.method.proofs.Rows.{Kept, kept_use}

pub is_none_is : (u : Option ℕ) → is_none u ≡ true → u ≡ None
is_none_is None e = refl
is_none_is (Some c) e = absurd (false≢true e)

-- the row that a step takes, and the column that it is used for
pub record Ready {S : Type 0} (K : Kind S) (a : List Bool) (rows : List (Row S)) (r c : ℕ) : Type 0 where
  pub row : r < length rows
  pub free : (row_of K rows r).used ≡ None
  pub holds : row_holds c (row_of K rows r) ≡ true
  pub active : has a c ≡ true
  pub only : (d : ℕ) → row_holds d (row_of K rows r) ≡ true → has a d ≡ true → d ≡ c

pub ready_is : {S : Type 0} (K : Kind S) (a : List Bool) (rows : List (Row S)) (r : ℕ) → lowest (ready a) rows ≡ Some r
    → Ready K a rows r (only_column a (row_of K rows r))
ready_is {S} K a rows r e = record {
  row = found.1;
  free = is_none_is q.used parts.0;
  holds = both.0;
  active = both.1;
  only = λ d h k. only_one (meet q.cols a) c d one low (has_meet q.cols a d ∙ and_from (row_holds d q) (has a d) h k);
}
  where
    q : Row S
    q = row_of K rows r

    c : ℕ
    c = only_column a q

    found : (ready a q ≡ true) × (r < length rows)
    found = lowest_some (ready a) (blank K) rows r e

    parts : (unused q ≡ true) × (eqb (count (meet q.cols a)) 1 ≡ true)
    parts = and_parts (unused q) (eqb (count (meet q.cols a)) 1) found.0

    one : count (meet q.cols a) ≡ 1
    one = eqb-true (count (meet q.cols a)) 1 parts.1

    low : has (meet q.cols a) c ≡ true
    low = lowest_in (meet q.cols a) (omega (arith, one))

    both : (row_holds c q ≡ true) × (has a c ≡ true)
    both = and_parts (row_holds c q) (has a c) (sym (has_meet q.cols a c) ∙ low)

module _ {S : Type 0} (K : Kind S) (n : ℕ) (got : List Bool) (syms : List S) where
  pub start_unused : (rows : List (List ℕ)) (r : ℕ) → (row_of K (map (start_row K n got syms) rows) r).used ≡ None
  start_unused [] r = refl
  start_unused (row ∷ rows) zero = refl
  start_unused (row ∷ rows) (suc r) = start_unused rows r

  start_within : (rows : List (List ℕ)) (r c : ℕ) → row_holds c (row_of K (map (start_row K n got syms) rows) r) ≡ true → has (missing got) c ≡ true
  start_within [] r c e = absurd (false≢true e)
  start_within (row ∷ rows) zero c e =
      (and_parts (member c row) (has (missing got) c) (sym (member_marked (missing got) row c) ∙ (marks_in n (marked (missing got) row) c e).1)).1
  start_within (row ∷ rows) (suc r) c e = start_within rows r c e

  start_count : (rows : List (List ℕ)) (c : ℕ) → used_count c (map (start_row K n got syms) rows) ≡ 0
  start_count [] c = refl
  start_count (row ∷ rows) c = omega (arith, start_count rows c)

module _ {S : Type 0} (K : Kind S) {P : Type 0} where
  -- what a search keeps, said of its state, with cs the pivots not yet settled
  abbrev pub Fine : List Bool → List (Row S) → State S P → List ℕ → Type 0
  Fine m from s cs = Kept K m from s.rows s.active cs s.free

  -- the same at its end: every pivot is settled and no column active
  pub record Ended (m : List Bool) (from : List (Row S)) (s : State S P) : Type 0 where
    pub kept : Fine m from s []
    pub idle : (c : ℕ) → has s.active c ≡ false

  pub start_fine : (k : Matrix) (got : List Bool) (syms : List S) (p : P) → Fine (missing got) (start_rows K k got syms) (start K k got syms p) []
  start_fine k got syms p = record {
    onward = λ x s. s;
    back = λ x s. s;
    own = λ r c e. absurd (none_some (sym (start_unused K k.width got syms k.rows r) ∙ e));
    alone = λ r c e. absurd (none_some (sym (start_unused K k.width got syms k.rows r) ∙ e));
    within = start_within K k.width got syms k.rows;
    balance = λ c. omega (arith, start_count K k.width got syms k.rows c);
    bare = λ c o. absurd (omega arith);
  }

module _ {S : Type 0} {K : Kind S} (L : Laws K) {P : Type 0} {m : List Bool} {from : List (Row S)} where
  module _ (choice : Choice P) (ok : Naming choice) where
    step_ready : (s : State S P) (r : ℕ) → Fine K m from s s.pivots → lowest (ready s.active) s.rows ≡ Some r
        → Fine K m from (step_at K choice (Some r) s) s.pivots × (suc (count (step_at K choice (Some r) s).active) ≡ count s.active)
    step_ready s r kp e =
        let t = ready_is K s.active s.rows r e in
        let c = only_column s.active (row_of K s.rows r) in (
          kept_use L (set s.active c false) s.pivots r c kp t.row t.free t.holds (λ d. omega (arith, has_clear s.active c d t.active)),
          count_clear s.active c t.active,
        )

    step_named : (s : State S P) → Fine K m from s s.pivots → count s.active ≢ 0
        → Fine K m from (step_at K choice None s) (step_at K choice None s).pivots × (suc (count (step_at K choice None s).active) ≡ count s.active)
    step_named s kp some_left = go asked.0 (ok s.policy s.active (map unused s.rows))
      where
        asked : Option ℕ × P
        asked = choice s.policy s.active (map unused s.rows)

        go : (o : Option ℕ) → Names s.active o
            → Fine K m from (named o asked.1 s) (named o asked.1 s).pivots × (suc (count (named o asked.1 s).active) ≡ count s.active)
        go None nm = absurd (some_left (none_count s.active nm))
        go (Some c) nm = (
          record {
            onward = kp.onward;
            back = kp.back;
            own = kp.own;
            alone = kp.alone;
            within = kp.within;
            balance = λ d. omega (arith, kp.balance d, occ_push d s.pivots c, has_clear s.active c d nm);
            bare = kp.bare;
          },
          count_clear s.active c nm,
        )

    step_kept : (s : State S P) → Fine K m from s s.pivots → count s.active ≢ 0 → (o : Option ℕ) → lowest (ready s.active) s.rows ≡ o
        → Fine K m from (step_at K choice o s) (step_at K choice o s).pivots × (suc (count (step_at K choice o s).active) ≡ count s.active)
    step_kept s kp h None e = step_named s kp h
    step_kept s kp h (Some r) e = step_ready s r kp e

    -- a step takes an active column away
    pub step_fine : (s : State S P) → Fine K m from s s.pivots
        → Fine K m from (step K choice s) (step K choice s).pivots × (count (step K choice s).active ≤ count s.active - 1)
    unfolding step
    step_fine s kp = go (eqb (count s.active) 0) refl
      where
        go : (b : Bool) → eqb (count s.active) 0 ≡ b
            → Fine K m from (step_if K choice (not b) s) (step_if K choice (not b) s).pivots × (count (step_if K choice (not b) s).active ≤ count s.active - 1)
        go true e = (kp, omega (arith, eqb-true (count s.active) 0 e))
        go false e =
            let t = step_kept s kp (eqb-false (count s.active) 0 e) (lowest (ready s.active) s.rows) refl in
            (t.0, omega (arith, t.1))

    pub steps_fine : (j : ℕ) (s : State S P) → Fine K m from s s.pivots
        → Fine K m from (steps K choice j s) (steps K choice j s).pivots × (count (steps K choice j s).active ≤ count s.active - j)
    unfolding steps
    steps_fine zero s kp = (kp, omega arith)
    steps_fine (suc j) s kp =
        let t = step_fine s kp in
        let u = steps_fine j (step K choice s) t.0 in
        (u.0, omega (arith, t.1, u.1))

  settle_one : (c : ℕ) (cs : List ℕ) (s : State S P) → ((d : ℕ) → has s.active d ≡ false) → Fine K m from s (c ∷ cs)
      → (o : Option ℕ) → lowest (holder c) s.rows ≡ o
      → Fine K m from (settle_at K c o s) cs × ((d : ℕ) → has (settle_at K c o s).active d ≡ false)
  settle_one c cs s off kp None e = (
    record {
      onward = kp.onward;
      back = kp.back;
      own = kp.own;
      alone = kp.alone;
      within = kp.within;
      balance = λ d. omega (arith, kp.balance d, occ_push d s.free c);
      bare = λ d o r u. bare' d o r u (eqb c d) refl;
    },
    off,
  )
    where
      bare' : (d : ℕ) → 1 ≤ occ d (s.free ++ c ∷ []) → (r : ℕ) → (row_of K s.rows r).used ≡ None → (b : Bool) → eqb c d ≡ b → row_holds d (row_of K s.rows r) ≡ false
      bare' d o r u true b =
          let h : holder c (row_of K s.rows r) ≡ false = lowest_none (holder c) (blank K) refl s.rows e r in
          let cd : c ≡ d = eqb-true c d b in
          rw (← cd) (rw u at h)
      bare' d o r u false b = kp.bare d (omega (arith, occ_push d s.free c, ap num b)) r u
  settle_one c cs s off kp (Some r) e = (
    kept_use L (set s.active c false) cs r c kp found.1 (is_none_is row.used parts.0) parts.1
        (λ d. omega (arith, ap num (off d), ap num (clear_keeps s.active c off d))),
    clear_keeps s.active c off,
  )
    where
      row : Row S
      row = row_of K s.rows r

      found : (holder c row ≡ true) × (r < length s.rows)
      found = lowest_some (holder c) (blank K) s.rows r e

      parts : (unused row ≡ true) × (row_holds c row ≡ true)
      parts = and_parts (unused row) (row_holds c row) found.0

  pub settle_fine : (cs : List ℕ) (s : State S P) → ((d : ℕ) → has s.active d ≡ false) → Fine K m from s cs → Ended K m from (settle K cs s)
  unfolding settle
  settle_fine [] s off kp = record { kept = kp; idle = off }
  settle_fine (c ∷ cs) s off kp =
      let t = settle_one c cs s off kp (lowest (holder c) s.rows) refl in
      settle_fine cs (settle_at K c (lowest (holder c) s.rows) s) t.1 t.0

module _ {S : Type 0} {K : Kind S} (L : Laws K) {P : Type 0} (choice : Choice P) (ok : Naming choice)
    (k : Matrix) (got : List Bool) (wide : length got ≡ k.width) (syms : List S) (p : P) where
  -- the steps leave no column active
  pub steps_idle : (c : ℕ) → has (steps K choice k.width (start K k got syms p)).active c ≡ false
  steps_idle =
      let t = steps_fine L choice ok k.width (start K k got syms p) (start_fine K k got syms p) in
      count_none (steps K choice k.width (start K k got syms p)).active (omega (arith, t.1, count_le (missing got), length-map got not))

  pub final_fine : Ended K (missing got) (start_rows K k got syms) (final K choice k got syms p)
  unfolding final
  final_fine =
      let s : State S P = steps K choice k.width (start K k got syms p) in
      settle_fine L s.pivots s steps_idle (steps_fine L choice ok k.width (start K k got syms p) (start_fine K k got syms p)).0

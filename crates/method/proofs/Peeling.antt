-- Where peeling stalls: the pivots of a search are columns named in turn.
use Rattle.std.proofs.Common.{◌≡◌, ℕ, zero, suc, ◌<◌, Bool, true, false, not, ◌&&◌, eqb, ◌≢◌, ◌⊎◌, ◌↔◌, List, [], ◌∷◌, ◌++◌, map, length, get_or, set, Some, None, Option, sym, refl, ap, ◌∙◌, subst, inl, inr, arith, get_or-set_other}
use mathlib.Core.Bool.{and-true}
use lib.ListN.{length-map}
use Rattle.std.proofs.lemmas.List.{append-nil, append_assoc}
use Rattle.std.proofs.lemmas.Bool.{true≢false, cases_Bool, cases_eq, and_parts, and_from, not-true, eq-eqb, ne_eqb, eqb-false}
use Rattle.symbols.specs.Kinds.{Kind, Laws}
use Rattle.codes.specs.Matrix.{Matrix, row_at, member}
use Rattle.method.specs.Sets.{has, meet, count, lowest, marked}
use Rattle.method.specs.Method.{Row, State, Choice, missing, is_none, row_holds, unused, ready, only_column, holder, named, row_of, blank, use_row, start_row, start, clash, filled, step_at, step_if, step, steps, settle_at, settle, final, answer_at, answer, method}
use Rattle.method.specs.Choices.{Names, Naming}
use Rattle.method.specs.Fillings.{No, pivots_of}
use Rattle.method.specs.Stopping.{NoneAlone, Among, Stopping, NamedInTurn}
use Rattle.method.specs.Theorems.{ColumnsNamedInTurn, PivotsTell}
use Rattle.method.proofs.Marks.{none_some, has_below, has_meet, has_marks, member_marked, clear_is, lowest_none}
use Rattle.method.proofs.Counts.{none_count, one_only}
use Rattle.method.proofs.Rows.{use_same, use_other, holds_added, used_added, differs_keeps}
use Rattle.method.proofs.Run.{Ready, ready_is, start_unused, steps_idle}

module _ {S : Type 0} (K : Kind S) (k : Matrix) where
  -- on active columns each row is the code's row, and a used row holds none of them
  pub record Peeled (rows : List (Row S)) (a : List Bool) : Type 0 where
    pub like : (r c : ℕ) → has a c ≡ true → row_holds c (row_of K rows r) ≡ member c (row_at k r)
    pub apart : (r c d : ℕ) → has a c ≡ true → (row_of K rows r).used ≡ Some d → row_holds c (row_of K rows r) ≡ false

  -- fewer active columns
  peeled_less : (rows : List (Row S)) (a : List Bool) (c : ℕ) → Peeled rows a → Peeled rows (set a c false)
  peeled_less rows a c p = record {
    like = λ r d h. p.like r d (clear_is a c d h).0;
    apart = λ r d e h. p.apart r d e (clear_is a c d h).0;
  }

  -- row r, of which c is the only active column, is used for c
  peeled_use : (rows : List (Row S)) (a : List Bool) (r c : ℕ) → r < length rows
      → ((d : ℕ) → row_holds d (row_of K rows r) ≡ true → has a d ≡ true → d ≡ c) → Peeled rows a → Peeled (use_row K r c rows) (set a c false)
  peeled_use rows a r c lt only p = record {
    like = λ i d h. like' i d h (cases_eq i r);
    apart = λ i d e h u. apart' i d e h u (cases_eq i r);
  }
    where
      rows' : List (Row S)
      rows' = use_row K r c rows

      used_other : (i : ℕ) → i ≢ r → (row_of K rows' i).used ≡ (row_of K rows i).used
      used_other i n = ap (λ q. q.used) (use_other K rows r c i n) ∙ used_added K (row_holds c (row_of K rows i)) (row_of K rows r) (row_of K rows i)

      empty : (d : ℕ) → has (set a c false) d ≡ true → row_holds d (row_of K rows r) ≡ false
      empty d h =
          let t = clear_is a c d h in
          elim (cases_Bool (row_holds d (row_of K rows r))) [ inr e ↦ e | inl e ↦ absurd (t.1 (only d e t.0)) ]

      holds_other : (i d : ℕ) → i ≢ r → has (set a c false) d ≡ true → row_holds d (row_of K rows' i) ≡ row_holds d (row_of K rows i)
      holds_other i d n h =
          ap (λ q. row_holds d q) (use_other K rows r c i n) ∙ holds_added K (row_holds c (row_of K rows i)) (row_of K rows r) (row_of K rows i) d
          ∙ differs_keeps (row_holds d (row_of K rows i)) (row_holds c (row_of K rows i)) (row_holds d (row_of K rows r)) (empty d h)

      like' : (i d : ℕ) → has (set a c false) d ≡ true → (i ≡ r) ⊎ (i ≡ r → ⊥) → row_holds d (row_of K rows' i) ≡ member d (row_at k i)
      like' i d h (inl z) = rw z (ap (λ q. row_holds d q) (use_same K rows r c lt) ∙ p.like r d (clear_is a c d h).0)
      like' i d h (inr z) = holds_other i d z h ∙ p.like i d (clear_is a c d h).0

      apart' : (i d e : ℕ) → has (set a c false) d ≡ true → (row_of K rows' i).used ≡ Some e → (i ≡ r) ⊎ (i ≡ r → ⊥) → row_holds d (row_of K rows' i) ≡ false
      apart' i d e h u (inl z) = rw z (ap (λ q. row_holds d q) (use_same K rows r c lt) ∙ empty d h)
      apart' i d e h u (inr z) = holds_other i d z h ∙ p.apart i d e (clear_is a c d h).0 (sym (used_other i z) ∙ u)

  -- with no row ready, no row of the code holds just one active column
  peeled_stalls : (rows : List (Row S)) (a : List Bool) → Peeled rows a → lowest (ready a) rows ≡ None → NoneAlone k (has a)
  peeled_stalls rows a p e r j = go row.used refl
    where
      row : Row S
      row = row_of K rows r

      c : ℕ
      c = j.0

      holds_c : row_holds c row ≡ true
      holds_c = p.like r c j.2 ∙ j.1

      one : count (meet row.cols a) ≡ 1
      one = one_only (meet row.cols a) c (has_meet row.cols a c ∙ and_from (row_holds c row) (has a c) holds_c j.2)
          (λ d h. let t = and_parts (row_holds d row) (has a d) (sym (has_meet row.cols a d) ∙ h) in
          j.3 d (sym (p.like r d t.1) ∙ t.0) t.1)

      go : (u : Option ℕ) → row.used ≡ u → ⊥
      go (Some d) u = true≢false (sym holds_c ∙ p.apart r c d j.2 u)
      go None u =
          true≢false (sym (and_from (unused row) (eqb (count (meet row.cols a)) 1) (ap is_none u) (eq-eqb _ _ one))
          ∙ lowest_none (ready a) (blank K) refl rows e r)

  -- at the start each row is the code's row on the missing columns
  start_like : (n : ℕ) (got : List Bool) (syms : List S) → length got ≡ n → (rows : List (List ℕ)) (r c : ℕ) → has (missing got) c ≡ true
      → row_holds c (row_of K (map (start_row K n got syms) rows) r) ≡ member c (get_or rows r [])
  start_like n got syms wide [] r c h = refl
  start_like n got syms wide (row ∷ rows) zero c h =
      has_marks n (marked (missing got) row) c (omega (arith, has_below (missing got) c h, length-map got not, wide))
      ∙ member_marked (missing got) row c ∙ ap (λ b. member c row && b) h ∙ and-true (member c row)
  start_like n got syms wide (row ∷ rows) (suc r) c h = start_like n got syms wide rows r c h

  peeled_start : {P : Type 0} (got : List Bool) → length got ≡ k.width → (syms : List S) (p : P) → Peeled (start K k got syms p).rows (missing got)
  peeled_start got wide syms p = record {
    like = λ r c h. start_like k.width got syms wide k.rows r c h;
    apart = λ r c d h u. absurd (none_some (sym (start_unused K k.width got syms k.rows r) ∙ u));
  }

  -- peeling from the set A has come to the active columns a: every part of A that could stall is still there
  record Reach (A : ℕ → Bool) (a : List Bool) : Type 0 where
    among : Among (has a) A
    most : (part : ℕ → Bool) → Among part A → NoneAlone k part → Among part (has a)

  -- a row that is ready holds no part that could stall
  reach_ready : (A : ℕ → Bool) (rows : List (Row S)) (a : List Bool) (r : ℕ) → Peeled rows a → lowest (ready a) rows ≡ Some r → Reach A a
      → Reach A (set a (only_column a (row_of K rows r)) false)
  reach_ready A rows a r p e h = record { among = λ d i. h.among d (clear_is a c d i).0; most = most' }
    where
      c : ℕ
      c = only_column a (row_of K rows r)

      t : Ready K a rows r c
      t = ready_is K a rows r e

      most' : (part : ℕ → Bool) → Among part A → NoneAlone k part → Among part (has (set a c false))
      most' part w na d is =
          get_or-set_other a c d false false
          (λ z. na r (
            c,
            sym (p.like r c t.active) ∙ t.holds,
            subst (λ x. part x ≡ true) z is,
            λ x lx px. t.only x (p.like r x (h.most part w na x px) ∙ lx) (h.most part w na x px),
          ))
          ∙ h.most part w na d is

  -- the pivot c is named where the active columns are what peeling left
  reach_named : (a : List Bool) (c : ℕ) → Reach (λ d. has a d && not (eqb d c)) (set a c false)
  reach_named a c = record {
    among = λ d i. let t = clear_is a c d i in and_from (has a d) (not (eqb d c)) t.0 (ap not (ne_eqb d c t.1));
    most = λ part w na d is. let t = and_parts (has a d) (not (eqb d c)) (w d is) in
        get_or-set_other a c d false false (eqb-false d c (not-true (eqb d c) t.1)) ∙ t.0;
  }

  module _ {P : Type 0} (choice : Choice P) (ok : Naming choice) where
    -- what the rest of a search names, from where peeling has come to
    abbrev Turn : ℕ → State S P → Type 0
    Turn j s = (l : List ℕ) × ((steps K choice j s).pivots ≡ s.pivots ++ l) × ((A : ℕ → Bool) → Reach A s.active → NamedInTurn k A l)

    abbrev Turns : ℕ → Type 0
    Turns j = (s : State S P) → Peeled s.rows s.active → ((c : ℕ) → has (steps K choice j s).active c ≡ false) → Turn j s

    -- from a turn of the rest after the step to this state
    abbrev Step : ℕ → State S P → State S P → Type 0
    Step j s t = (l : List ℕ) × ((steps K choice j t).pivots ≡ s.pivots ++ l) × ((A : ℕ → Bool) → Reach A s.active → NamedInTurn k A l)

    turn_named : (j : ℕ) → Turns j → (s : State S P) → Peeled s.rows s.active → count s.active ≢ 0 → lowest (ready s.active) s.rows ≡ None
        → (p : P) (o : Option ℕ) → Names s.active o → ((c : ℕ) → has (steps K choice j (named o p s)).active c ≡ false) → Step j s (named o p s)
    turn_named j rec s w some_left e p None nm off = absurd (some_left (none_count s.active nm))
    turn_named j rec s w some_left e p (Some c) nm off =
        let t = rec (named (Some c) p s) (peeled_less s.rows s.active c w) off in (
          c ∷ t.0,
          t.1 ∙ append_assoc s.pivots (c ∷ []) t.0,
          λ A h. (
            has s.active,
            record { among = h.among; none_alone = peeled_stalls s.rows s.active w e; most = h.most },
            nm,
            t.2 (λ d. has s.active d && not (eqb d c)) (reach_named s.active c),
          ),
        )

    turn_at : (j : ℕ) → Turns j → (s : State S P) → Peeled s.rows s.active → count s.active ≢ 0 → (o : Option ℕ) → lowest (ready s.active) s.rows ≡ o
        → ((c : ℕ) → has (steps K choice j (step_at K choice o s)).active c ≡ false) → Step j s (step_at K choice o s)
    turn_at j rec s w some_left None e off =
        let o = choice s.policy s.active (map unused s.rows) in
        turn_named j rec s w some_left e o.1 o.0 (ok s.policy s.active (map unused s.rows)) off
    turn_at j rec s w some_left (Some r) e off =
        let g = ready_is K s.active s.rows r e in
        let c = only_column s.active (row_of K s.rows r) in
        let t = rec (step_at K choice (Some r) s) (peeled_use s.rows s.active r c g.row g.only w) off in
        (t.0, t.1, λ A h. t.2 A (reach_ready A s.rows s.active r w e h))

    turn_if : (j : ℕ) → Turns j → (s : State S P) → Peeled s.rows s.active → (b : Bool) → eqb (count s.active) 0 ≡ b
        → ((c : ℕ) → has (steps K choice j (step_if K choice (not b) s)).active c ≡ false) → Step j s (step_if K choice (not b) s)
    turn_if j rec s w true z off = rec s w off
    turn_if j rec s w false z off = turn_at j rec s w (eqb-false (count s.active) 0 z) (lowest (ready s.active) s.rows) refl off

    turn : (j : ℕ) → Turns j
    unfolding steps step
    turn zero s w off =
        ([], sym (append-nil s.pivots), λ A h t st. let c = st.some_place in true≢false (sym (h.most t st.among st.none_alone c.0 c.1) ∙ off c.0))
    turn (suc j) s w off = turn_if j (turn j) s w (eqb (count s.active) 0) refl off

-- the first column named lies in a stopping set
none_named : (k : Matrix) (places : ℕ → Bool) (cs : List ℕ) → NamedInTurn k places cs → (length cs ≡ 0) ↔ No (Stopping k places)
none_named k places [] t = (λ _. t, λ _. refl)
none_named k places (c ∷ cs) t = (
  λ z. absurd (omega arith),
  λ no. absurd (no t.0 (record { some_place = (c, t.2); among = t.1.among; none_alone = t.1.none_alone })),
)

answer_pivots : {S : Type 0} (o : Option ℕ) (p a : ℕ) (fs : List ℕ) (w : List S) → pivots_of (answer_at o p a fs w) ≡ p
answer_pivots (Some r) p a fs w = refl
answer_pivots None p a [] w = refl
answer_pivots None p a (f ∷ fs) w = refl

module _ {S : Type 0} (K : Kind S) {P : Type 0} where
  -- settling names no pivot, and an answer counts them all
  pub settle_pivots : (cs : List ℕ) (s : State S P) → (settle K cs s).pivots ≡ s.pivots
  unfolding settle
  settle_pivots [] s = refl
  settle_pivots (c ∷ cs) s = settle_pivots cs (settle_at K c (lowest (holder c) s.rows) s) ∙ at (lowest (holder c) s.rows)
    where
      at : (o : Option ℕ) → (settle_at K c o s).pivots ≡ s.pivots
      at None = refl
      at (Some r) = refl

  pub method_pivots : (choice : Choice P) (k : Matrix) (got : List Bool) (syms : List S) (p : P) → pivots_of (method K choice k got syms p) ≡ length (final K choice k got syms p).pivots
  unfolding answer method
  method_pivots choice k got syms p =
      let s : State S P = final K choice k got syms p in
      answer_pivots (lowest (clash K) s.rows) (length s.pivots) s.additions s.free (filled K k.width got syms s.rows)

module _ {S : Type 0} {K : Kind S} (L : Laws K) {P : Type 0} where
  pub named_in_turn : ColumnsNamedInTurn S K P
  unfolding final
  named_in_turn choice ok k lawful got wide syms p =
      subst (NamedInTurn k (has (missing got))) (sym (settle_pivots K s.pivots s ∙ t.1)) (t.2 (has (missing got)) (record { among = λ c i. i; most = λ part w na. w }))
    where
      s : State S P
      s = steps K choice k.width (start K k got syms p)

      t : Turn K k choice ok k.width (start K k got syms p)
      t = turn K k choice ok k.width (start K k got syms p) (peeled_start K k got wide syms p) (steps_idle L choice ok k got wide syms p)

  pub pivots_tell : PivotsTell S K P
  pivots_tell choice ok k lawful got wide syms p =
      let t = none_named k (has (missing got)) (final K choice k got syms p).pivots (named_in_turn choice ok k lawful got wide syms p) in
      let e = method_pivots K choice k got syms p in
      (λ z. t.0 (sym e ∙ z), λ no. e ∙ t.1 no)

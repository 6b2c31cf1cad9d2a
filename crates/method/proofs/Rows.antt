-- The rows of a search: what using a row does to them, and what every search keeps.
use Rattle.std.proofs.Common.{◌≡◌, ℕ, ◌+◌, ◌<◌, ◌≤◌, Bool, true, false, not, ◌&&◌, eqb, ◌≢◌, ◌⊎◌, List, map, length, get_or, Some, None, sym, refl, ap, ◌∙◌, ap₂, inl, inr, arith, get_or-set_other, get_or-set_same}
use lib.ListN.{get_or-map, length-map}
use Rattle.std.proofs.lemmas.Bool.{false≢true, cases_eq}
use Rattle.symbols.specs.Kinds.{Kind, Laws}
use Rattle.method.specs.Sets.{has, differs}
use Rattle.method.specs.Method.{Row, row_holds, row_of, blank, taken_for, use_row, added_if}
use Rattle.method.proofs.Marks.{has_sym_diff, differs_false, none_some}
use Rattle.method.proofs.Sums.{sum_over, sum_diff, sum_move, sum_twice}
use Rattle.method.proofs.Counts.{num, occ, used_count, used_map, used_set}

-- what is false alters nothing
pub differs_keeps : (x b y : Bool) → y ≡ false → differs x (b && y) ≡ x
differs_keeps x true y e = ap (differs x) e ∙ differs_false x
differs_keeps x false y e = differs_false x

differs_cancels : (b y : Bool) → y ≡ true → differs b (b && y) ≡ false
differs_cancels true y e = ap not e
differs_cancels false y e = refl

differs_true : (x b y : Bool) → differs x (b && y) ≡ true → (x ≡ true) ⊎ (y ≡ true)
differs_true true b y e = inl refl
differs_true false true y e = inr e
differs_true false false y e = absurd (false≢true e)

module _ {S : Type 0} (K : Kind S) where
  pub holds_added : (b : Bool) (p q : Row S) (d : ℕ) → row_holds d (added_if K b p q) ≡ differs (row_holds d q) (b && row_holds d p)
  holds_added true p q d = has_sym_diff q.cols p.cols d
  holds_added false p q d = sym (differs_false (row_holds d q))

  pub used_added : (b : Bool) (p q : Row S) → (added_if K b p q).used ≡ q.used
  used_added true p q = refl
  used_added false p q = refl

  -- the rows after a use: row r itself, the others, and how many are used for a column
  pub use_same : (rows : List (Row S)) (r c : ℕ) → r < length rows → row_of K (use_row K r c rows) r ≡ taken_for c (row_of K rows r)
  use_same rows r c h =
      let f : Row S → Row S = λ q. added_if K (row_holds c q) (row_of K rows r) q in
      let l : r < length (map f rows) = omega (arith, length-map rows f) in
      get_or-set_same (map f rows) r (taken_for c (row_of K rows r)) (blank K) l

  pub use_other : (rows : List (Row S)) (r c i : ℕ) → i ≢ r
      → row_of K (use_row K r c rows) i ≡ added_if K (row_holds c (row_of K rows i)) (row_of K rows r) (row_of K rows i)
  use_other rows r c i h =
      let f : Row S → Row S = λ q. added_if K (row_holds c q) (row_of K rows r) q in
      get_or-set_other (map f rows) r i (taken_for c (row_of K rows r)) (blank K) h ∙ get_or-map f rows i (blank K)

  pub use_count : (rows : List (Row S)) (r c d : ℕ) → r < length rows → (row_of K rows r).used ≡ None
      → used_count d (use_row K r c rows) ≡ used_count d rows + num (eqb c d)
  use_count rows r c d h e =
      let f : Row S → Row S = λ q. added_if K (row_holds c q) (row_of K rows r) q in
      let l : r < length (map f rows) = omega (arith, length-map rows f) in
      let u : (get_or (map f rows) r (blank K)).used ≡ None =
      ap (λ q. q.used) (get_or-map f rows r (blank K)) ∙ used_added (row_holds c (row_of K rows r)) (row_of K rows r) (row_of K rows r) ∙ e in
      used_set K (map f rows) r d c (taken_for c (row_of K rows r)) l u refl
      ∙ ap (λ n. n + num (eqb c d)) (used_map f (λ q. used_added (row_holds c q) (row_of K rows r) q) d rows)

  -- the symbols x meet every row
  abbrev pub Solves : List (Row S) → (ℕ → S) → Type 0
  Solves rows x = (i : ℕ) → sum_over K (row_of K rows i).cols x ≡ (row_of K rows i).right

  -- what every search keeps, with a the active columns, cs the pivots not yet settled and fs the free pivots:
  -- the solutions are those of the rows at the start; a used row holds its own column, which no other row holds;
  -- what a row holds is missing; each missing place is just one of active, a pivot not yet settled, free, or some
  -- row's own column; and no unused row holds a free pivot
  pub record Kept (missing : List Bool) (from rows : List (Row S)) (a : List Bool) (cs fs : List ℕ) : Type 0 where
    pub onward : (x : ℕ → S) → Solves from x → Solves rows x
    pub back : (x : ℕ → S) → Solves rows x → Solves from x
    pub own : (r c : ℕ) → (row_of K rows r).used ≡ Some c → row_holds c (row_of K rows r) ≡ true
    pub alone : (r c : ℕ) → (row_of K rows r).used ≡ Some c → (i : ℕ) → i ≢ r → row_holds c (row_of K rows i) ≡ false
    pub within : (r c : ℕ) → row_holds c (row_of K rows r) ≡ true → has missing c ≡ true
    pub balance : (c : ℕ) → num (has a c) + (occ c cs + (occ c fs + used_count c rows)) ≡ num (has missing c)
    pub bare : (c : ℕ) → 1 ≤ occ c fs → (r : ℕ) → (row_of K rows r).used ≡ None → row_holds c (row_of K rows r) ≡ false

module _ {S : Type 0} {K : Kind S} (L : Laws K) where
  added_meets : (b : Bool) (p q : Row S) (x : ℕ → S) → sum_over K p.cols x ≡ p.right → sum_over K q.cols x ≡ q.right
      → sum_over K (added_if K b p q).cols x ≡ (added_if K b p q).right
  added_meets true p q x hp hq = sum_diff L q.cols p.cols x ∙ ap₂ K.sum hq hp
  added_meets false p q x hp hq = hq

  added_met : (b : Bool) (p q : Row S) (x : ℕ → S) → sum_over K p.cols x ≡ p.right
      → sum_over K (added_if K b p q).cols x ≡ (added_if K b p q).right → sum_over K q.cols x ≡ q.right
  added_met true p q x hp hq =
      let e : K.sum (sum_over K q.cols x) p.right ≡ K.sum q.right p.right =
      ap (K.sum (sum_over K q.cols x)) (sym hp) ∙ sym (sum_diff L q.cols p.cols x) ∙ hq in
      sum_move L (sum_over K q.cols x) p.right (K.sum q.right p.right) e
      ∙ L.sums.commutative (K.sum q.right p.right) p.right
      ∙ ap (K.sum p.right) (L.sums.commutative q.right p.right) ∙ sum_twice L p.right q.right
  added_met false p q x hp hq = hq

  -- a use keeps the solutions, both ways
  pub use_solves : (rows : List (Row S)) (r c : ℕ) → r < length rows → (x : ℕ → S) → Solves K rows x → Solves K (use_row K r c rows) x
  use_solves rows r c h x s i =
      elim (cases_eq i r) [
        | inl e ↦ rw (e, use_same K rows r c h) (s r)
        | inr n ↦ rw (use_other K rows r c i n) (added_meets (row_holds c (row_of K rows i)) (row_of K rows r) (row_of K rows i) x (s r) (s i))
      ]

  pub use_solved : (rows : List (Row S)) (r c : ℕ) → r < length rows → (x : ℕ → S) → Solves K (use_row K r c rows) x → Solves K rows x
  use_solved rows r c h x s i =
      let at_r : sum_over K (row_of K rows r).cols x ≡ (row_of K rows r).right = rw (use_same K rows r c h) at (s r) in
      elim (cases_eq i r) [
        | inl e ↦ rw e at_r
        | inr n ↦ added_met (row_holds c (row_of K rows i)) (row_of K rows r) (row_of K rows i) x at_r (rw (use_other K rows r c i n) at (s i))
      ]

  -- an unused row that holds c is used for it, and c moves from the active columns or the pivots to the used ones
  pub kept_use : {m : List Bool} {from rows : List (Row S)} {a : List Bool} {cs fs : List ℕ} (a' : List Bool) (cs' : List ℕ) (r c : ℕ)
      → Kept K m from rows a cs fs → r < length rows → (row_of K rows r).used ≡ None → row_holds c (row_of K rows r) ≡ true
      → ((d : ℕ) → num (has a d) + occ d cs ≡ num (has a' d) + (occ d cs' + num (eqb c d)))
      → Kept K m from (use_row K r c rows) a' cs' fs
  kept_use {m} {from} {rows} {a} {cs} {fs} a' cs' r c kp lt un hc moves = record {
    onward = λ x s. use_solves rows r c lt x (kp.onward x s);
    back = λ x s. kp.back x (use_solved rows r c lt x s);
    own = λ i d e. own' i d e (cases_eq i r);
    alone = λ i d e j n. alone' i d e j n (cases_eq i r) (cases_eq j r);
    within = λ i d e. within' i d e (cases_eq i r);
    balance = λ d. omega (arith, use_count K rows r c d lt un, moves d, kp.balance d);
    bare = λ d o i e. bare' d o i e (cases_eq i r);
  }
    where
      rows' : List (Row S)
      rows' = use_row K r c rows

      same : row_of K rows' r ≡ taken_for c (row_of K rows r)
      same = use_same K rows r c lt

      holds_same : (d : ℕ) → row_holds d (row_of K rows' r) ≡ row_holds d (row_of K rows r)
      holds_same d = ap (λ q. row_holds d q) same

      used_same : (row_of K rows' r).used ≡ Some c
      used_same = ap (λ q. q.used) same

      holds_other : (i d : ℕ) → i ≢ r → row_holds d (row_of K rows' i) ≡ differs (row_holds d (row_of K rows i)) (row_holds c (row_of K rows i) && row_holds d (row_of K rows r))
      holds_other i d n = ap (λ q. row_holds d q) (use_other K rows r c i n) ∙ holds_added K (row_holds c (row_of K rows i)) (row_of K rows r) (row_of K rows i) d

      used_other : (i : ℕ) → i ≢ r → (row_of K rows' i).used ≡ (row_of K rows i).used
      used_other i n = ap (λ q. q.used) (use_other K rows r c i n) ∙ used_added K (row_holds c (row_of K rows i)) (row_of K rows r) (row_of K rows i)

      -- the row taken does not hold another row's own column
      apart : (i d : ℕ) → i ≢ r → (row_of K rows i).used ≡ Some d → row_holds d (row_of K rows r) ≡ false
      apart i d n e = kp.alone i d e r (λ z. n (sym z))

      own' : (i d : ℕ) → (row_of K rows' i).used ≡ Some d → (i ≡ r) ⊎ (i ≡ r → ⊥) → row_holds d (row_of K rows' i) ≡ true
      own' i d e (inl z) =
          let e' : (row_of K rows' r).used ≡ Some d = rw z at e in
          let cd : c ≡ d = cc (used_same, e') in
          rw (z, ← cd) (holds_same c ∙ hc)
      own' i d e (inr n) =
          let e' : (row_of K rows i).used ≡ Some d = sym (used_other i n) ∙ e in
          holds_other i d n ∙ differs_keeps (row_holds d (row_of K rows i)) (row_holds c (row_of K rows i)) (row_holds d (row_of K rows r)) (apart i d n e') ∙ kp.own i d e'

      alone' : (i d : ℕ) → (row_of K rows' i).used ≡ Some d → (j : ℕ) → j ≢ i → (i ≡ r) ⊎ (i ≡ r → ⊥) → (j ≡ r) ⊎ (j ≡ r → ⊥) → row_holds d (row_of K rows' j) ≡ false
      alone' i d e j n (inl z) (inl y) = absurd (n (y ∙ sym z))
      alone' i d e j n (inl z) (inr y) =
          let e' : (row_of K rows' r).used ≡ Some d = rw z at e in
          let cd : c ≡ d = cc (used_same, e') in
          rw (← cd) (holds_other j c y ∙ differs_cancels (row_holds c (row_of K rows j)) (row_holds c (row_of K rows r)) hc)
      alone' i d e j n (inr z) (inl y) =
          let e' : (row_of K rows i).used ≡ Some d = sym (used_other i z) ∙ e in
          rw y (holds_same d ∙ apart i d z e')
      alone' i d e j n (inr z) (inr y) =
          let e' : (row_of K rows i).used ≡ Some d = sym (used_other i z) ∙ e in
          holds_other j d y ∙ differs_keeps (row_holds d (row_of K rows j)) (row_holds c (row_of K rows j)) (row_holds d (row_of K rows r)) (apart i d z e') ∙ kp.alone i d e' j n

      within' : (i d : ℕ) → row_holds d (row_of K rows' i) ≡ true → (i ≡ r) ⊎ (i ≡ r → ⊥) → has m d ≡ true
      within' i d e (inl z) = kp.within r d (sym (holds_same d) ∙ (rw z at e))
      within' i d e (inr n) =
          elim (differs_true (row_holds d (row_of K rows i)) (row_holds c (row_of K rows i)) (row_holds d (row_of K rows r)) (sym (holds_other i d n) ∙ e)) [
            | inl h ↦ kp.within i d h
            | inr h ↦ kp.within r d h
          ]

      bare' : (d : ℕ) → 1 ≤ occ d fs → (i : ℕ) → (row_of K rows' i).used ≡ None → (i ≡ r) ⊎ (i ≡ r → ⊥) → row_holds d (row_of K rows' i) ≡ false
      bare' d o i e (inl z) = absurd (none_some (sym (rw z at e) ∙ used_same))
      bare' d o i e (inr n) =
          holds_other i d n
          ∙ differs_keeps (row_holds d (row_of K rows i)) (row_holds c (row_of K rows i)) (row_holds d (row_of K rows r)) (kp.bare d o r un)
          ∙ kp.bare d o i (sym (used_other i n) ∙ e)

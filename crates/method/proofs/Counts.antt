-- How many numbers are marked, how often a number is listed, and how many rows are used for it.
use Rattle.std.proofs.Common.{◌≡◌, ℕ, zero, suc, ◌+◌, ◌<◌, ◌≤◌, Bool, true, false, cond, ◌||◌, eqb, List, [], ◌∷◌, ◌++◌, map, length, set, Some, None, Option, sym, refl, ap, ◌∙◌, ap₂, inl, inr, arith, get_or-set_other}
use lib.Dec.{eqb-zero-suc, eqb-suc-zero, eqb-suc-suc}
use Rattle.std.proofs.lemmas.Bool.{true≢false, false≢true, cases_Bool, cases_eq, eqb-true, eq-eqb}
use Rattle.symbols.specs.Kinds.{Kind}
use Rattle.codes.specs.Matrix.{member, Apart}
use Rattle.method.specs.Sets.{has, count, lowest, or_else}
use Rattle.method.specs.Method.{Row, used_for, row_of, blank, row_for}
use Rattle.method.proofs.Marks.{none_some, clear_is, lowest_some, lowest_none}

-- a test as a number, so that a count is a sum
abbrev pub num : Bool → ℕ
num true = 1
num false = 0

-- a mark taken away
pub has_clear : (s : List Bool) (c d : ℕ) → has s c ≡ true → num (has (set s c false) d) + num (eqb c d) ≡ num (has s d)
has_clear [] c d h = absurd (false≢true h)
has_clear (b ∷ s) zero zero h = rw h refl
has_clear (b ∷ s) zero (suc d) h = simp (eqb-zero-suc) (omega arith)
has_clear (b ∷ s) (suc c) zero h = simp (eqb-suc-zero) (omega arith)
has_clear (b ∷ s) (suc c) (suc d) h = simp (eqb-suc-suc) (has_clear s c d h)

-- one fewer is counted
pub count_clear : (s : List Bool) (c : ℕ) → has s c ≡ true → suc (count (set s c false)) ≡ count s
count_clear [] c h = absurd (false≢true h)
count_clear (true ∷ s) zero h = refl
count_clear (false ∷ s) zero h = absurd (false≢true h)
count_clear (true ∷ s) (suc c) h = ap suc (count_clear s c h)
count_clear (false ∷ s) (suc c) h = count_clear s c h

-- nothing is counted exactly where nothing is marked
pub count_none : (s : List Bool) → count s ≡ 0 → (c : ℕ) → has s c ≡ false
count_none [] h c = refl
count_none (true ∷ s) h c = absurd (omega arith)
count_none (false ∷ s) h zero = refl
count_none (false ∷ s) h (suc c) = count_none s h c

pub none_count : (s : List Bool) → ((c : ℕ) → has s c ≡ false) → count s ≡ 0
none_count [] h = refl
none_count (true ∷ s) h = absurd (true≢false (h 0))
none_count (false ∷ s) h = none_count s (λ c. h (suc c))

-- no more are counted than the list is long
pub count_le : (s : List Bool) → count s ≤ length s
count_le [] = omega arith
count_le (true ∷ s) = omega (arith, count_le s)
count_le (false ∷ s) = omega (arith, count_le s)

-- a set with something in it: its lowest number is in it
pub lowest_in : (s : List Bool) → 1 ≤ count s → has s (or_else (lowest (λ b. b) s) 0) ≡ true
lowest_in s e = go (lowest (λ b. b) s) refl
  where
    go : (o : Option ℕ) → lowest (λ b. b) s ≡ o → has s (or_else o 0) ≡ true
    go None q = absurd (let z = none_count s (λ c. lowest_none (λ b. b) false refl s q c) in omega arith)
    go (Some c) q = (lowest_some (λ b. b) false s c q).0

-- one is counted exactly where any two that are marked are equal
pub only_one : (s : List Bool) (c d : ℕ) → count s ≡ 1 → has s c ≡ true → has s d ≡ true → d ≡ c
only_one s c d e hc hd = elim (cases_eq d c) [ inl z ↦ z | inr z ↦ absurd (go z) ]
  where
    go : (d ≡ c → ⊥) → ⊥
    go z =
        let n : count (set s c false) ≡ 0 = omega (arith, count_clear s c hc) in
        true≢false (sym hd ∙ sym (get_or-set_other s c d false false z) ∙ count_none (set s c false) n d)

pub one_only : (s : List Bool) (c : ℕ) → has s c ≡ true → ((d : ℕ) → has s d ≡ true → d ≡ c) → count s ≡ 1
one_only s c hc u = omega (arith, count_clear s c hc, none_count (set s c false) rest)
  where
    rest : (d : ℕ) → has (set s c false) d ≡ false
    rest d = elim (cases_Bool (has (set s c false) d)) [ inr e ↦ e | inl e ↦ absurd ((clear_is s c d e).1 (u d (clear_is s c d e).0)) ]

-- how often c is listed
abbrev pub occ : ℕ → List ℕ → ℕ
occ c [] = 0
occ c (x ∷ xs) = num (eqb x c) + occ c xs

-- one more listed
pub occ_push : (c : ℕ) (xs : List ℕ) (x : ℕ) → occ c (xs ++ x ∷ []) ≡ occ c xs + num (eqb x c)
occ_push c [] x = omega arith
occ_push c (y ∷ xs) x = omega (arith, occ_push c xs x)

-- a number is listed at least once exactly where it is a member
pub occ_none : (c : ℕ) (xs : List ℕ) → member c xs ≡ false → occ c xs ≡ 0
occ_none c [] e = refl
occ_none c (x ∷ xs) e = go (eqb x c) (occ_none c xs) e
  where
    go : (b : Bool) → (member c xs ≡ false → occ c xs ≡ 0) → (b || member c xs) ≡ false → num b + occ c xs ≡ 0
    go true ih e = absurd (true≢false e)
    go false ih e = omega (arith, ih e)

pub occ_some : (c : ℕ) (xs : List ℕ) → member c xs ≡ true → 1 ≤ occ c xs
occ_some c [] e = absurd (false≢true e)
occ_some c (x ∷ xs) e = go (eqb x c) (occ_some c xs) e
  where
    go : (b : Bool) → (member c xs ≡ true → 1 ≤ occ c xs) → (b || member c xs) ≡ true → 1 ≤ num b + occ c xs
    go true ih e = omega arith
    go false ih e = omega (arith, ih e)

pub member_some : (c : ℕ) (xs : List ℕ) → 1 ≤ occ c xs → member c xs ≡ true
member_some c xs h = elim (cases_Bool (member c xs)) [ inl e ↦ e | inr e ↦ absurd (omega (arith, occ_none c xs e)) ]

pub member_none : (c : ℕ) (xs : List ℕ) → occ c xs ≡ 0 → member c xs ≡ false
member_none c xs h = elim (cases_Bool (member c xs)) [ inr e ↦ e | inl e ↦ absurd (omega (arith, occ_some c xs e)) ]

pub occ_self : (c : ℕ) (xs : List ℕ) → occ c (c ∷ xs) ≡ suc (occ c xs)
occ_self c xs = omega (arith, ap num (eq-eqb c c refl))

-- numbers listed at most once are pairwise different
pub occ_apart : (xs : List ℕ) → ((c : ℕ) → occ c xs ≤ 1) → Apart xs
occ_apart [] h = tt
occ_apart (x ∷ xs) h = (member_none x xs (omega (arith, h x, occ_self x xs)), occ_apart xs (λ c. omega (arith, h c)))

-- a row's use, if any, is for c
pub used_for_is : (c : ℕ) (u : Option ℕ) → used_for c u ≡ true → u ≡ Some c
used_for_is c None e = absurd (false≢true e)
used_for_is c (Some d) e = ap Some (eqb-true d c e)

pub is_used_for : (c : ℕ) (u : Option ℕ) → u ≡ Some c → used_for c u ≡ true
is_used_for c None e = absurd (none_some e)
is_used_for c (Some d) e = let z : d ≡ c = cc in eq-eqb d c z

-- how many rows are used for c
abbrev pub used_count : {S : Type 0} → ℕ → List (Row S) → ℕ
used_count c [] = 0
used_count c (q ∷ qs) = num (used_for c q.used) + used_count c qs

-- what keeps the uses keeps their number
pub used_map : {S : Type 0} (f : Row S → Row S) → ((q : Row S) → (f q).used ≡ q.used) → (c : ℕ) (rows : List (Row S))
    → used_count c (map f rows) ≡ used_count c rows
used_map f h c [] = refl
used_map f h c (q ∷ qs) = ap₂ (λ u n. num (used_for c u) + n) (h q) (used_map f h c qs)

module _ {S : Type 0} (K : Kind S) where
  -- an unused row becomes used for d
  pub used_set : (rows : List (Row S)) (r c d : ℕ) (q : Row S) → r < length rows → (row_of K rows r).used ≡ None → q.used ≡ Some d
      → used_count c (set rows r q) ≡ used_count c rows + num (eqb d c)
  used_set [] r c d q l e e' = absurd (omega arith)
  used_set (p ∷ rows) zero c d q l e e' = rw (e, e') (omega arith)
  used_set (p ∷ rows) (suc r) c d q l e e' = omega (arith, used_set rows r c d q (omega arith) e e')

  -- a column counted is some row's own, and a row's own column is counted
  pub used_somewhere : (rows : List (Row S)) (c : ℕ) → 1 ≤ used_count c rows → (r : ℕ) × ((row_of K rows r).used ≡ Some c)
  used_somewhere [] c h = absurd (omega arith)
  used_somewhere (q ∷ rows) c h = go (used_for c q.used) refl (used_somewhere rows c)
    where
      go : (b : Bool) → used_for c q.used ≡ b → (1 ≤ used_count c rows → (r : ℕ) × ((row_of K rows r).used ≡ Some c))
          → (r : ℕ) × ((row_of K (q ∷ rows) r).used ≡ Some c)
      go true e ih = (0, used_for_is c q.used e)
      go false e ih = let t = ih (omega (arith, ap num e)) in (suc t.0, t.1)

  pub used_counts : (rows : List (Row S)) (c r : ℕ) → (row_of K rows r).used ≡ Some c → 1 ≤ used_count c rows
  used_counts [] c r e = absurd (none_some e)
  used_counts (q ∷ rows) c zero e = omega (arith, ap num (is_used_for c q.used e))
  used_counts (q ∷ rows) c (suc r) e = omega (arith, used_counts rows c r e)

  -- at most one row is used for c: it is one and the same
  pub used_once : (rows : List (Row S)) (c r i : ℕ) → used_count c rows ≤ 1 → (row_of K rows r).used ≡ Some c → (row_of K rows i).used ≡ Some c → i ≡ r
  used_once [] c r i h e e' = absurd (none_some e)
  used_once (q ∷ rows) c zero zero h e e' = refl
  used_once (q ∷ rows) c zero (suc i) h e e' = absurd (omega (arith, ap num (is_used_for c q.used e), used_counts rows c i e'))
  used_once (q ∷ rows) c (suc r) zero h e e' = absurd (omega (arith, ap num (is_used_for c q.used e'), used_counts rows c r e))
  used_once (q ∷ rows) c (suc r) (suc i) h e e' = ap suc (used_once rows c r i (omega arith) e e')

  -- the row used for c, where there is just one, and where there is none
  pub row_for_is : (rows : List (Row S)) (c r : ℕ) → (row_of K rows r).used ≡ Some c → used_count c rows ≤ 1 → row_for K c rows ≡ row_of K rows r
  row_for_is [] c r e h = refl
  row_for_is (q ∷ rows) c zero e h = rw (is_used_for c q.used e) refl
  row_for_is (q ∷ rows) c (suc r) e h = go (used_for c q.used) refl (row_for_is rows c r e)
    where
      go : (b : Bool) → used_for c q.used ≡ b → (used_count c rows ≤ 1 → row_for K c rows ≡ row_of K rows r)
          → cond b q (row_for K c rows) ≡ row_of K rows r
      go true b ih = absurd (omega (arith, ap num b, used_counts rows c r e))
      go false b ih = ih (omega (arith, ap num b))

  pub row_for_none : (rows : List (Row S)) (c : ℕ) → used_count c rows ≡ 0 → row_for K c rows ≡ blank K
  row_for_none [] c h = refl
  row_for_none (q ∷ rows) c h = go (used_for c q.used) refl (row_for_none rows c)
    where
      go : (b : Bool) → used_for c q.used ≡ b → (used_count c rows ≡ 0 → row_for K c rows ≡ blank K)
          → cond b q (row_for K c rows) ≡ blank K
      go true b ih = absurd (omega (arith, ap num b))
      go false b ih = ih (omega (arith, ap num b))

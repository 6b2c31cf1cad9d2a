-- What a search has come to at its end, and its solutions by the symbols at the free pivots.
use Rattle.std.proofs.Common.{◌≡◌, ℕ, ◌+◌, ◌<◌, ◌≤◌, Bool, true, false, ◌≢◌, ◌⊎◌, List, set, Some, None, Option, sym, refl, ap, ◌∙◌, ap₂, inl, inr, arith}
use Rattle.std.proofs.lemmas.Bool.{true≢false, cases_Bool, cases_lt}
use Rattle.symbols.specs.Kinds.{Kind, Laws}
use Rattle.codes.specs.Matrix.{member}
use Rattle.method.specs.Sets.{has}
use Rattle.method.specs.Method.{Row, State, row_holds, row_of, row_for}
use Rattle.method.specs.Fillings.{No, One}
use Rattle.method.specs.Settled.{Used, Settled}
use Rattle.method.proofs.Marks.{none_some, clear_is}
use Rattle.method.proofs.Sums.{sum_over, sum_zero, sum_move, sum_one, sum_none, sum_same}
use Rattle.method.proofs.Counts.{num, occ, occ_some, member_some, member_none, occ_apart, used_count, used_somewhere, used_counts, used_once, row_for_is, row_for_none}
use Rattle.method.proofs.Rows.{Solves}
use Rattle.method.proofs.Run.{Ended}

num_le : (b : Bool) → num b ≤ 1
num_le true = omega arith
num_le false = omega arith

module _ {S P : Type 0} {K : Kind S} {m : List Bool} {from : List (Row S)} {s : State S P} (e : Ended K m from s) where
  -- each missing place is just one of free and some row's own column
  pub shares : (c : ℕ) → occ c s.free + used_count c s.rows ≡ num (has m c)
  shares c = omega (arith, e.kept.balance c, ap num (e.idle c))

  pub shares_le : (c : ℕ) → occ c s.free + used_count c s.rows ≤ 1
  shares_le c = omega (arith, shares c, num_le (has m c))

  pub free_or_used : (c : ℕ) → has m c ≡ true → (1 ≤ occ c s.free) ⊎ ((r : ℕ) × ((row_of K s.rows r).used ≡ Some c))
  free_or_used c h = go (cases_lt 0 (used_count c s.rows))
    where
      go : (0 < used_count c s.rows) ⊎ (used_count c s.rows ≤ 0) → (1 ≤ occ c s.free) ⊎ ((r : ℕ) × ((row_of K s.rows r).used ≡ Some c))
      go (inl l) = inr (used_somewhere K s.rows c l)
      go (inr l) = inl (omega (arith, shares c, ap num h))

  -- a free pivot is missing, and no row is used for it
  pub free_is : (c : ℕ) → 1 ≤ occ c s.free → (has m c ≡ true) × (used_count c s.rows ≡ 0)
  free_is c o = go (has m c) refl
    where
      go : (b : Bool) → has m c ≡ b → (has m c ≡ true) × (used_count c s.rows ≡ 0)
      go true h = (h, omega (arith, shares c, ap num h))
      go false h = absurd (omega (arith, shares c, ap num h))

  -- an unused row is empty
  pub unused_empty : (r : ℕ) → (row_of K s.rows r).used ≡ None → (c : ℕ) → row_holds c (row_of K s.rows r) ≡ false
  unused_empty r u c = elim (cases_Bool (row_holds c (row_of K s.rows r))) [ inr h ↦ h | inl h ↦ go (free_or_used c (e.kept.within r c h)) ]
    where
      go : (1 ≤ occ c s.free) ⊎ ((r : ℕ) × ((row_of K s.rows r).used ≡ Some c)) → row_holds c (row_of K s.rows r) ≡ false
      go (inl o) = e.kept.bare c o r u
      go (inr t) = e.kept.alone t.0 c t.1 r (λ z. none_some (sym u ∙ (rw (← z) at t.1)))

  -- a used row holds its own column, and beside it free pivots only
  pub used_holds : (r c d : ℕ) → (row_of K s.rows r).used ≡ Some c → row_holds d (row_of K s.rows r) ≡ true → d ≢ c → 1 ≤ occ d s.free
  used_holds r c d u h n = go (free_or_used d (e.kept.within r d h))
    where
      go : (1 ≤ occ d s.free) ⊎ ((r : ℕ) × ((row_of K s.rows r).used ≡ Some d)) → 1 ≤ occ d s.free
      go (inl o) = o
      go (inr t) =
          let ne : r ≢ t.0 = λ z. n (let u' : (row_of K s.rows r).used ≡ Some d = rw z t.1 in cc) in
          absurd (true≢false (sym h ∙ e.kept.alone t.0 d t.1 r ne))

  pub ended_settled : Settled K m s
  ended_settled = record {
    idle = e.idle;
    unused_empty = unused_empty;
    holds_own = e.kept.own;
    own_alone = e.kept.alone;
    holds_free = λ r c u d n h. member_some d s.free (used_holds r c d u h n);
    free_apart = occ_apart s.free (λ c. omega (arith, shares_le c));
    free_missing = λ c h. (free_is c (occ_some c s.free h)).0;
    used_missing = λ r c u. e.kept.within r c (e.kept.own r c u);
    free_or_used = λ c h. place c (free_or_used c h);
  }
    where
      place : (c : ℕ) → (1 ≤ occ c s.free) ⊎ ((r : ℕ) × ((row_of K s.rows r).used ≡ Some c))
          → ((member c s.free ≡ true) × No (Used K s.rows c)) ⊎ ((member c s.free ≡ false) × One (Used K s.rows c))
      place c (inl o) = inl (member_some c s.free o, λ r u. omega (arith, used_counts K s.rows c r u, (free_is c o).1))
      place c (inr t) =
          inr (
            member_none c s.free (omega (arith, used_counts K s.rows c t.0 t.1, shares_le c)),
            (t.0, (t.1, λ i u. used_once K s.rows c t.0 i (omega (arith, shares_le c)) t.1 u)),
          )

-- the solution that has the symbols y at the free pivots, where y is zero at the used columns
abbrev pub value_by : {S : Type 0} (K : Kind S) → (ℕ → S) → ℕ → Row S → S
value_by K y c q = K.sum (y c) (K.sum q.right (sum_over K q.cols y))

abbrev pub value : {S : Type 0} (K : Kind S) → List (Row S) → (ℕ → S) → ℕ → S
value K rows y c = value_by K y c (row_for K c rows)

-- no right side of an unused row is other than zero
abbrev pub Clean : {S : Type 0} → Kind S → List (Row S) → Type 0
Clean K rows = (r : ℕ) → (row_of K rows r).used ≡ None → (row_of K rows r).right ≡ K.zero

-- zero at every used column
abbrev pub OffUsed : {S : Type 0} → Kind S → List (Row S) → (ℕ → S) → Type 0
OffUsed K rows y = (c : ℕ) → 1 ≤ used_count c rows → y c ≡ K.zero

module _ {S P : Type 0} {K : Kind S} (L : Laws K) {m : List Bool} {from : List (Row S)} {s : State S P} (e : Ended K m from s) where
  pub value_free : (y : ℕ → S) (c : ℕ) → used_count c s.rows ≡ 0 → value K s.rows y c ≡ y c
  value_free y c u = ap (value_by K y c) (row_for_none K s.rows c u) ∙ ap (K.sum (y c)) (L.sums.identity K.zero) ∙ sum_zero L (y c)

  -- a row's set without the column that it is used for
  rest : ℕ → ℕ → List Bool
  rest r c = set (row_of K s.rows r).cols c false

  value_used : (y : ℕ → S) → OffUsed K s.rows y → (r c : ℕ) → (row_of K s.rows r).used ≡ Some c
      → value K s.rows y c ≡ K.sum (row_of K s.rows r).right (sum_over K (rest r c) y)
  unfolding rest
  value_used y off r c u =
      let row : Row S = row_of K s.rows r in
      let yc : y c ≡ K.zero = off c (used_counts K s.rows c r u) in
      ap (value_by K y c) (row_for_is K s.rows c r u (omega (arith, shares_le e c)))
      ∙ ap (λ v. K.sum v (K.sum row.right (sum_over K row.cols y))) yc ∙ L.sums.identity (K.sum row.right (sum_over K row.cols y))
      ∙ ap (K.sum row.right) (sum_one L row.cols c y (e.kept.own r c u) ∙ ap (λ v. K.sum v (sum_over K (rest r c) y)) yc ∙ L.sums.identity (sum_over K (rest r c) y))

  -- beside its own column a row holds free pivots, so symbols that are equal there have equal sums
  rest_same : (x y : ℕ → S) → ((d : ℕ) → 1 ≤ occ d s.free → x d ≡ y d) → (r c : ℕ) → (row_of K s.rows r).used ≡ Some c
      → sum_over K (rest r c) x ≡ sum_over K (rest r c) y
  unfolding rest
  rest_same x y same r c u =
      sum_same L (rest r c) x y (λ d h. let t = clear_is (row_of K s.rows r).cols c d h in same d (used_holds e r c d u t.0 t.1))

  pub value_solves : Clean K s.rows → (y : ℕ → S) → OffUsed K s.rows y
      → (x : ℕ → S) → ((c : ℕ) → has m c ≡ true → x c ≡ value K s.rows y c) → Solves K s.rows x
  unfolding rest
  value_solves clean y off x is r = go row.used refl
    where
      row : Row S
      row = row_of K s.rows r

      free_same : (d : ℕ) → 1 ≤ occ d s.free → x d ≡ y d
      free_same d o = let f = free_is e d o in is d f.0 ∙ value_free y d f.1

      go : (u : Option ℕ) → row.used ≡ u → sum_over K row.cols x ≡ row.right
      go None u = sum_none L row.cols x (unused_empty e r u) ∙ sym (clean r u)
      go (Some c) u =
          let hc : row_holds c row ≡ true = e.kept.own r c u in
          sum_one L row.cols c x hc
          ∙ ap₂ K.sum (is c (e.kept.within r c hc) ∙ value_used y off r c u) (rest_same x y free_same r c u)
          ∙ L.sums.associative row.right (sum_over K (rest r c) y) (sum_over K (rest r c) y)
          ∙ ap (K.sum row.right) (L.cancels (sum_over K (rest r c) y)) ∙ sum_zero L row.right

  -- a solution is determined by its symbols at the free pivots
  pub value_only : (x : ℕ → S) → Solves K s.rows x → (y : ℕ → S) → OffUsed K s.rows y → ((d : ℕ) → 1 ≤ occ d s.free → x d ≡ y d)
      → (c : ℕ) → has m c ≡ true → x c ≡ value K s.rows y c
  unfolding rest
  value_only x sx y off same c h = go (free_or_used e c h)
    where
      go : (1 ≤ occ c s.free) ⊎ ((r : ℕ) × ((row_of K s.rows r).used ≡ Some c)) → x c ≡ value K s.rows y c
      go (inl o) = same c o ∙ sym (value_free y c (free_is e c o).1)
      go (inr t) =
          let r = t.0 in
          sum_move L (x c) (sum_over K (rest r c) x) (row_of K s.rows r).right
          (sym (sum_one L (row_of K s.rows r).cols c x (e.kept.own r c t.1)) ∙ sx r)
          ∙ ap (K.sum (row_of K s.rows r).right) (rest_same x y same r c t.1) ∙ sym (value_used y off r c t.1)

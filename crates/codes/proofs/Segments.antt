-- A row of a listed code is one stretch of its records.
use Rattle.std.proofs.Common.{◌≡◌, ℕ, zero, suc, ◌+◌, ◌-◌, ◌<◌, ◌≤◌, eqb, List, [], ◌∷◌, map, length, take, drop, Some, None, filter, sym, ap, ◌∙◌, ⊎_elim, arith}
use Rattle.std.specs.List.{slice_get}
use Rattle.std.proofs.lemmas.List.{length-map, length-take, length-drop, get_or-map, get_or-take, get_or-drop}
use Rattle.std.proofs.lemmas.Option.{slice_get-get_or, slice_get_past}
use Rattle.std.proofs.lemmas.Bool.{cond-true, cond-false, eq-eqb, ne_eqb, cases_lt}
use Rattle.codes.specs.declared.record.Record.{Record}
use Rattle.codes.specs.Matrix.{row_at, weight, column_at}
use Rattle.codes.specs.RecordLaws.{rank, Rising, rows_rise}
use Rattle.codes.specs.Records.{row_of, column_of, columns_of, listed, Parts, Start}
use Rattle.codes.specs.Tables.{table_at, table_past}

-- what parts a list parts its tail
parts_tail : (x : Record) (xs : List Record) (r p : ℕ) → Parts (x ∷ xs) r (suc p) → Parts xs r p
parts_tail x xs r p s = record {
  within = omega (arith, s.within);
  before = λ k h. s.before (suc k) (omega arith);
  after = λ k h u. s.after (suc k) (omega arith) (omega arith);
}

parts_none : (x : Record) (xs : List Record) (r : ℕ) → Parts (x ∷ xs) r 0 → Parts xs r 0
parts_none x xs r s = record {
  within = omega arith;
  before = λ k h. absurd (omega arith);
  after = λ k h u. s.after (suc k) (omega arith) (omega arith);
}

-- the records of row r stand between where it begins and where the next row begins
segment : (rs : List Record) (r p q : ℕ) → Parts rs r p → Parts rs (r + 1) q → filter (λ k. eqb k.row r) rs ≡ take (q - p) (drop p rs)
segment [] r p q s t =
    let e : p ≡ 0 = omega (arith, s.within) in
    let f : q ≡ 0 = omega (arith, t.within) in
    rw (e, f)
segment (x ∷ xs) r zero zero s t =
    cond-false _ _ _ (ne_eqb x.row r (λ e. omega (arith, t.after 0 (omega arith) (omega arith)))) ∙ segment xs r 0 0 (parts_none x xs r s) (parts_none x xs (r + 1) t)
segment (x ∷ xs) r zero (suc q) s t =
    let e : q - 0 ≡ q = omega arith in
    let f : suc q ≡ suc q - 0 = omega arith in
    cond-true _ _ _ (eq-eqb x.row r (omega (arith, s.after 0 (omega arith) (omega arith), t.before 0 (omega arith))))
    ∙ ap (λ ys. x ∷ ys) (segment xs r 0 q (parts_none x xs r s) (parts_tail x xs (r + 1) q t) ∙ ap (λ n. take n xs) e)
    ∙ ap (λ n. take n (x ∷ xs)) f
segment (x ∷ xs) r (suc p) zero s t =
    absurd (omega (arith, s.before 0 (omega arith), t.after 0 (omega arith) (omega arith)))
segment (x ∷ xs) r (suc p) (suc q) s t =
    cond-false _ _ _ (ne_eqb x.row r (λ e. omega (arith, s.before 0 (omega arith))))
    ∙ segment xs r p q (parts_tail x xs r p s) (parts_tail x xs (r + 1) q t)
    ∙ ap (λ n. take n (drop p xs)) (omega arith)

parts_le : (rs : List Record) (r p q : ℕ) → Parts rs r p → Parts rs (r + 1) q → p ≤ q
parts_le rs r p q s t =
    ⊎_elim (λ (l : q < p). absurd (omega (arith, s.before q l, t.after q (omega arith) (omega (arith, s.within))))) (λ (l : p ≤ q). l) (cases_lt q p)

-- rising records are parted at every row
before_more : (x : Record) (xs : List Record) (r q : ℕ) → x.row < r → Parts xs r q → (k : ℕ) → k < suc q → row_of (x ∷ xs) k < r
before_more x xs r q l s zero u = l
before_more x xs r q l s (suc k) u = s.before k (omega arith)

after_more : (x : Record) (xs : List Record) (r q : ℕ) → Parts xs r q → (k : ℕ) → suc q ≤ k → k < length (x ∷ xs) → r ≤ row_of (x ∷ xs) k
after_more x xs r q s zero l u = absurd (omega arith)
after_more x xs r q s (suc k) l u = s.after k (omega arith) (omega arith)

pub parted : (m n low : ℕ) (rs : List Record) → n ≤ 512 → Rising m n low rs → (r : ℕ) → (q : ℕ) × Parts rs r q
parted m n low [] small h r = (0, record { within = omega arith; before = λ k l. absurd (omega arith); after = λ k l u. absurd (omega arith) })
parted m n low (x ∷ xs) small h r =
    ⊎_elim
    (λ (l : x.row < r).
    let t = parted m n (rank x + 1) xs small h.3 r in
    (suc t.0, record { within = omega (arith, t.1.within); before = before_more x xs r t.0 l t.1; after = after_more x xs r t.0 t.1 }))
    (λ (l : r ≤ x.row). (0, record { within = omega arith; before = λ k u. absurd (omega arith); after = λ k _ u. omega (arith, rows_rise m n low (x ∷ xs) small h 0 k (omega arith) u) }))
    (cases_lt x.row r)

-- row r, read between its ends
module _ (m n : ℕ) (rs : List Record) (r p q : ℕ) (s : Parts rs r p) (t : Parts rs (r + 1) q) where
  the_row : r < m → row_at (listed m n rs) r ≡ map (λ k. k.column) (take (q - p) (drop p rs))
  the_row in' = table_at m n (columns_of rs) r in' ∙ ap (map (λ k. k.column)) (segment rs r p q s t)

  the_length : length (map (λ k. k.column) (take (q - p) (drop p rs))) ≡ q - p
  the_length = simp (length-map, length-take, length-drop) (omega (arith, t.within))

  width_at : r < m → q - p ≡ weight (listed m n rs) r
  width_at in' = sym (ap length (the_row in') ∙ the_length)

  none_at : (i : ℕ) → r < m → q - p ≤ i → column_at (listed m n rs) r i ≡ None
  none_at i in' h = ap (λ row. slice_get row i) (the_row in') ∙ slice_get_past _ i (omega (arith, the_length))

  some_at : (i : ℕ) → r < m → i < q - p → column_at (listed m n rs) r i ≡ Some (column_of rs (p + i))
  some_at i in' h =
      let d : Record = record { row = 0; column = 0 } in
      let short : i < length (take (q - p) (drop p rs)) = simp (length-take, length-drop) (omega (arith, t.within)) in
      ap (λ row. slice_get row i) (the_row in')
      ∙ slice_get-get_or (map (λ k. k.column) (take (q - p) (drop p rs))) i 0 (omega (arith, the_length))
      ∙ ap Some (get_or-map (λ k. k.column) (take (q - p) (drop p rs)) i d 0 short ∙ ap (λ k. k.column) (get_or-take (q - p) (drop p rs) i d h ∙ get_or-drop p rs i d))

-- every record is of a row below m
pub rows_below : (m n low : ℕ) (rs : List Record) → Rising m n low rs → (i : ℕ) → i < length rs → row_of rs i < m
rows_below m n low [] h i u = absurd (omega arith)
rows_below m n low (k ∷ ks) h zero u = h.0
rows_below m n low (k ∷ ks) h (suc i) u = rows_below m n (rank k + 1) ks h.3 i (omega arith)

module _ (m n : ℕ) (rs : List Record) (small : n ≤ 512) (h : Rising m n 0 rs) (r p : ℕ) (s : Parts rs r p) where
  next : (q : ℕ) × Parts rs (r + 1) q
  next = parted m n 0 rs small h (r + 1)

  none_past : (i : ℕ) → m ≤ r → column_at (listed m n rs) r i ≡ None
  none_past i l = ap (λ row. slice_get row i) (table_past m n (columns_of rs) r l)

  none_from : (i : ℕ) → next.0 - p ≤ i → column_at (listed m n rs) r i ≡ None
  none_from i l = ⊎_elim (λ in'. none_at m n rs r p next.0 s next.1 i in' l) (none_past i) (cases_lt r m)

  found : (i : ℕ) → p + i < length rs → row_of rs (p + i) ≡ r → column_at (listed m n rs) r i ≡ Some (column_of rs (p + i))
  found i u e =
      some_at m n rs r p next.0 s next.1 i
      (omega (arith, rows_below m n 0 rs h (p + i) u))
      (⊎_elim (λ (l : i < next.0 - p). l) (λ (l : next.0 - p ≤ i). absurd (omega (arith, parts_le rs r p next.0 s next.1, next.1.after (p + i) (omega arith) u))) (cases_lt i (next.0 - p)))

  other : (i : ℕ) → p + i < length rs → (row_of rs (p + i) ≡ r → ⊥) → column_at (listed m n rs) r i ≡ None
  other i u ne =
      none_from i
      (⊎_elim (λ (l : i < next.0 - p). absurd (ne (omega (arith, s.after (p + i) (omega arith) u, next.1.before (p + i) (omega arith))))) (λ (l : next.0 - p ≤ i). l) (cases_lt i (next.0 - p)))

  ended : (i : ℕ) → length rs ≤ p + i → column_at (listed m n rs) r i ≡ None
  ended i l = none_from i (omega (arith, next.1.within))

  pub start : Start m n rs r p
  start = record {
    parts = s;
    up_to = λ q t. parts_le rs r p q s t;
    wide = λ q t in'. width_at m n rs r p q s t in';
    past = λ l. ap length (table_past m n (columns_of rs) r l);
    found = found;
    other = other;
    ended = ended;
  }

-- A row read column by column: one step, and what a `for` over a row knows.
--
--   rest_some, place_small     a column that is read: what is left from its place on, and how small the place is
--   place_below, column_small  a column that is asked for by its place: the place lies within the row, and the column within the code
--   row_left, row_so_far       in `for c in code.row(r)`: the row is what was yielded and what is left, so what was yielded is its front
--   row_place, row_small       the next column: where it stands in the row, and how small it is
--   row_end                    at the end of the loop all of the row was yielded
use Rattle.std.proofs.Common.{◌≡◌, ℕ, ◌+◌, ◌<◌, ◌≤◌, List, [], ◌∷◌, ◌++◌, length, get_or, take, drop, Some, sym, ap, ◌∙◌, ⊎_elim, arith}
use Rattle.std.specs.Iterator.{YieldsFirst, Yields}
use Rattle.std.specs.List.{slice_get}
use Rattle.std.proofs.ByRecursion.{All-get_or}
use Rattle.std.proofs.lemmas.List.{drop_more, get_or_past, length-append, append-nil}
use Rattle.std.proofs.Math.Seq.{take-append_seam, get_or-append_seam}
use Rattle.std.proofs.lemmas.List.Sums.{get_or-le-sum_by}
use Rattle.std.proofs.lemmas.Option.{slice_get_within, get_or_from_slice_get}
use Rattle.std.proofs.lemmas.Bool.{cases_lt}
use Rattle.codes.specs.declared.row.RowColumns.{RowColumns}
use Rattle.codes.specs.Matrix.{Matrix, Lawful, row_at, height, weight, column_at, ones}
use Rattle.codes.specs.MatrixLaws.{row_lawful}
use Rattle.codes.specs.RowsRead.{columns_left}

pub rest_some : (xs : List ℕ) (i c : ℕ) → Some c ≡ slice_get xs i → drop i xs ≡ c ∷ drop (i + 1) xs
rest_some xs i c e = drop_more xs i 0 (slice_get_within xs i c (sym e)) ∙ ap (λ y. y ∷ drop (i + 1) xs) (get_or_from_slice_get xs i c 0 (sym e))

-- a row has no more columns than the code has ones
row_few : (k : Matrix) (r : ℕ) → length (row_at k r) ≤ ones k
row_few k r =
    ⊎_elim
    (λ (h : r < height k). get_or-le-sum_by length k.rows r [] h)
    (λ (h : height k ≤ r). omega (arith, ap length (get_or_past k.rows r [] h)))
    (cases_lt r (height k))

pub place_small : (k : Matrix) → Lawful k → (r i c : ℕ) → Some c ≡ column_at k r i → i < 4096
place_small k ok r i c e = omega (arith, slice_get_within (row_at k r) i c (sym e), row_few k r, ok.few_ones)

pub place_below : (k : Matrix) (r i c : ℕ) → Some c ≡ column_at k r i → i < weight k r
place_below k r i c e = slice_get_within (row_at k r) i c (sym e)

pub column_small : (k : Matrix) → Lawful k → (r i c : ℕ) → Some c ≡ column_at k r i → c < 512
column_small k ok r i c e =
    let in_row = All-get_or (λ c. c < k.width) (row_at k r) i 0 (place_below k r i c e) (row_lawful k ok r).within in
    omega (arith, in_row, get_or_from_slice_get (row_at k r) i c 0 (sym e), ok.few_columns)

left_after : {S : Type 0} (left : S → List ℕ) (s t : S) (xs : List ℕ) → Yields (YieldsFirst left) s xs t → left s ≡ xs ++ left t
left_after left s t [] y = ap left y
left_after left s t (x ∷ xs) y = y.1 ∙ ap (λ ys. x ∷ ys) (left_after left y.0 t xs y.2)

-- a is what `row` gave, s what the loop made of it, and t where it has yielded xs
module _ {C : Type 0} (m : C → Matrix) (k : Matrix) (r : ℕ) {a s : RowColumns C} (begins : columns_left m a ≡ row_at k r) (same : s ≡ a) (xs : List ℕ) (t : RowColumns C) (y : Yields (YieldsFirst (columns_left m)) s xs t) where
  pub row_left : row_at k r ≡ xs ++ columns_left m t
  row_left = sym (ap (columns_left m) same ∙ begins) ∙ left_after (columns_left m) s t xs y

  pub row_so_far : xs ≡ take (length xs) (row_at k r)
  row_so_far = sym (ap (take (length xs)) row_left ∙ take-append_seam xs (columns_left m t))

  pub row_place : (c : ℕ) (cs : List ℕ) → columns_left m t ≡ c ∷ cs → (length xs < weight k r) × (get_or (row_at k r) (length xs) 0 ≡ c)
  row_place c cs h =
      let e : row_at k r ≡ xs ++ c ∷ cs = row_left ∙ ap (λ ys. xs ++ ys) h in
      (omega (arith, ap length e, length-append xs (c ∷ cs)), ap (λ ys. get_or ys (length xs) 0) e ∙ get_or-append_seam xs c cs 0)

  pub row_small : Lawful k → (c : ℕ) (cs : List ℕ) → columns_left m t ≡ c ∷ cs → c < k.width
  row_small ok c cs h =
      let p = row_place c cs h in
      omega (arith, p.1, All-get_or (λ c. c < k.width) (row_at k r) (length xs) 0 p.0 (row_lawful k ok r).within)

  pub row_end : columns_left m t ≡ [] → xs ≡ row_at k r
  row_end h = sym (row_left ∙ ap (λ ys. xs ++ ys) h ∙ append-nil xs)

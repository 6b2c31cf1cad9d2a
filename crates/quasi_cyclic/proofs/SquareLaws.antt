-- The columns of a row, square by square.
--
--   line_columns_in   those of a line of squares that lie in one of them
--   one_to_a_square   a row holds one column of each square that is not empty, and none of an empty one
use Rattle.std.proofs.Common.{◌≡◌, ℕ, suc, ◌+◌, ◌-◌, ◌*◌, ◌/◌, ◌%◌, ◌<◌, ◌≤◌, Bool, false, eqb, List, [], ◌∷◌, ◌++◌, length, get_or, drop, ℤ, negsuc, Some, None, filter, Option, sym, refl, ap, ◌∙◌, ⊎_elim, add-mul, one-mul, arith}
use Rattle.std.specs.List.{AllByRecursion}
use Rattle.std.proofs.lemmas.Nat.{div-mul-add, mod_below, le-div, div_below}
use Rattle.std.proofs.ByRecursion.{All-weaker}
use Rattle.std.proofs.lemmas.List.{append-nil, length-take, length-drop, get_or-take, get_or-drop}
use Rattle.std.proofs.lemmas.Bool.{cond-true, cond-false, eq-eqb, ne_eqb, cases_eq}
use Rattle.codes.specs.Tables.{table_at}
use Rattle.quasi_cyclic.specs.Entries.{shift_of, turned, square_row, line_row, line_of, quasi_cyclic}
use Rattle.quasi_cyclic.specs.EntryLaws.{Sizes, whole_line, line_columns}
use Rattle.quasi_cyclic.specs.SquareRows.{entry_at, columns_in, OneToASquare}

kept_none : (p : ℕ → Bool) (xs : List ℕ) → AllByRecursion (λ c. p c ≡ false) xs → filter p xs ≡ []
kept_none p [] h = refl
kept_none p (x ∷ xs) h = cond-false _ _ _ h.0 ∙ kept_none p xs h.1

module _ (z r j : ℕ) (pz : 1 ≤ z) where
  -- a column of square j, by number
  in_square : (s : ℕ) → (j * z + turned z r s) / z ≡ j
  in_square s = div-mul-add j z (turned z r s) (mod_below (r % z + s) z pz)

  kept_here : (o : Option ℕ) (xs : List ℕ) → filter (λ c. eqb (c / z) j) (square_row z r (j * z) o ++ xs) ≡ square_row z r (j * z) o ++ filter (λ c. eqb (c / z) j) xs
  kept_here (Some s) xs = cond-true _ _ _ (eq-eqb _ _ (in_square s))
  kept_here None xs = refl

  kept_elsewhere : (x : ℕ) → (x ≡ j → ⊥) → (o : Option ℕ) (xs : List ℕ) → filter (λ c. eqb (c / z) x) (square_row z r (j * z) o ++ xs) ≡ filter (λ c. eqb (c / z) x) xs
  kept_elsewhere x ne (Some s) xs = cond-false _ _ _ (ne_eqb _ _ (λ e. ne (sym e ∙ in_square s)))
  kept_elsewhere x ne None xs = refl

  next : j * z + z ≡ (j + 1) * z
  next = sym (add-mul j 1 z ∙ ap (λ v. j * z + v) (one-mul z))

  kept_later : (es : List ℤ) → filter (λ c. eqb (c / z) j) (line_row z r (j * z + z) es) ≡ []
  kept_later es =
      kept_none (λ c. eqb (c / z) j) (line_row z r (j * z + z) es)
      (All-weaker (λ c. (j * z + z ≤ c) × (c < j * z + z + length es * z)) (λ c. eqb (c / z) j ≡ false)
      (λ c p. ne_eqb _ _ (λ e. omega (arith, le-div (j + 1) c z pz (omega (arith, next, p.0)))))
      (line_row z r (j * z + z) es) (line_columns z r (j * z + z) es pz))

-- of a line that begins with square j, the columns in square x
pub line_columns_in : (z r j x : ℕ) (es : List ℤ) → 1 ≤ z → j ≤ x → x < j + length es → filter (λ c. eqb (c / z) x) (line_row z r (j * z) es) ≡ square_row z r (x * z) (shift_of (get_or es (x - j) (negsuc 0)))
line_columns_in z r j x [] pz l u = absurd (omega arith)
line_columns_in z r j x (e ∷ es) pz l u =
    ⊎_elim
    (λ (same : x ≡ j).
    let first : x - j ≡ 0 = omega arith in
    ap (λ x. filter (λ c. eqb (c / z) x) (line_row z r (j * z) (e ∷ es))) same
    ∙ kept_here z r j pz (shift_of e) (line_row z r (j * z + z) es)
    ∙ ap (λ xs. square_row z r (j * z) (shift_of e) ++ xs) (kept_later z r j pz es)
    ∙ append-nil (square_row z r (j * z) (shift_of e))
    ∙ ap (λ j. square_row z r (j * z) (shift_of e)) (sym same)
    ∙ ap (λ i. square_row z r (x * z) (shift_of (get_or (e ∷ es) i (negsuc 0)))) (sym first))
    (λ (ne : x ≡ j → ⊥).
    let later : x - j ≡ suc (x - (j + 1)) = omega arith in
    kept_elsewhere z r j pz x ne (shift_of e) (line_row z r (j * z + z) es)
    ∙ ap (λ s. filter (λ c. eqb (c / z) x) (line_row z r s es)) (next z r j pz)
    ∙ line_columns_in z r (j + 1) x es pz (omega arith) (omega arith)
    ∙ ap (λ i. square_row z r (x * z) (shift_of (get_or (e ∷ es) i (negsuc 0)))) (sym later))
    (cases_eq x j)

module _ (a b z : ℕ) (es : List ℤ) (s : Sizes a b z (length es)) where
  row_columns_in : (r x : ℕ) → r < a * z → x < b → columns_in (quasi_cyclic a b z es) z r x ≡ square_row z r (x * z) (shift_of (entry_at b z es r x))
  row_columns_in r x h u =
      let line = line_of b z es r in
      let full : length line ≡ b = simp (length-take, length-drop) (omega (arith, whole_line a b (r / z) (div_below r z a s.some_z h), s.whole)) in
      let start : 0 * z ≡ 0 = omega arith in
      ap (filter (λ c. eqb (c / z) x)) (table_at (a * z) (b * z) (λ r. line_row z r 0 (line_of b z es r)) r h)
      ∙ ap (λ s. filter (λ c. eqb (c / z) x) (line_row z r s line)) (sym start)
      ∙ line_columns_in z r 0 x line s.some_z (omega arith) (omega arith)
      ∙ ap (λ e. square_row z r (x * z) (shift_of e)) (ap (λ i. get_or line i (negsuc 0)) (omega arith) ∙ get_or-take b (drop (r / z * b) es) x (negsuc 0) u ∙ get_or-drop (r / z * b) es x (negsuc 0))

  pub one_to_a_square : OneToASquare a b z es
  one_to_a_square = record {
    one = λ r x t h u e. row_columns_in r x h u ∙ ap (λ e. square_row z r (x * z) (shift_of e)) e;
    none = λ r x h u e. row_columns_in r x h u ∙ ap (λ e. square_row z r (x * z) (shift_of e)) e;
  }

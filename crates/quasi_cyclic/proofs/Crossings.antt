-- Whether a row holds a column, by the one square that the column crosses in the line of the row.
--
--   crosses_none      past the last square no column is held
--   crosses_empty     an empty square holds no column
--   crosses_filled    a square that is not empty holds one column, whose place in it the shift gives
use Rattle.std.proofs.Common.{◌≡◌, ℕ, ◌+◌, ◌*◌, ◌/◌, ◌%◌, ◌<◌, ◌≤◌, Bool, true, false, eqb, ◌||◌, List, [], ◌∷◌, length, get_or, ℤ, negsuc, Some, None, filter, sym, refl, ap, ◌∙◌, ⊎_elim, mul_comm, mul-le-mul_right, arith}
use Rattle.std.specs.List.{AllByRecursion}
use Rattle.std.proofs.Math.Nat.{div-mul-le_self, div-add-mod}
use Rattle.std.proofs.ByRecursion.{All-weaker}
use Rattle.std.proofs.lemmas.Bool.{cond-true, cond-false, cases_Bool, cases_eq, eq-eqb, ne_eqb, or_from}
use Rattle.codes.specs.Matrix.{member}
use Rattle.quasi_cyclic.specs.Entries.{shift_of, turned, square_row, line_row}
use Rattle.quasi_cyclic.specs.EntryLaws.{line_columns}
use Rattle.quasi_cyclic.proofs.SquareLaws.{line_columns_in}

-- a column that passes a test is held where it is held among those that pass
member_filter : (p : ℕ → Bool) (c : ℕ) → p c ≡ true → (xs : List ℕ) → member c (filter p xs) ≡ member c xs
member_filter p c h [] = refl
member_filter p c h (x ∷ xs) =
    ⊎_elim
    (λ (yes : p x ≡ true). ap (member c) (cond-true _ _ _ yes) ∙ ap (λ b. eqb x c || b) (member_filter p c h xs))
    (λ (no : p x ≡ false).
    let other : x ≡ c → ⊥ = λ e. absurd (let o : true ≡ false = sym h ∙ ap p (sym e) ∙ no in cc) in
    ap (member c) (cond-false _ _ _ no) ∙ member_filter p c h xs ∙ ap (λ b. b || member c xs) (sym (ne_eqb x c other)))
    (cases_Bool (p x))

not_member_above : (c : ℕ) (xs : List ℕ) → AllByRecursion (λ x. x < c) xs → member c xs ≡ false
not_member_above c [] h = refl
not_member_above c (x ∷ xs) h = or_from (eqb x c) (member c xs) (ne_eqb x c (λ e. omega (arith, h.0))) (not_member_above c xs h.1)

module _ (z r c : ℕ) (pz : 1 ≤ z) (line : List ℤ) where
  pub crosses_none : length line ≤ c / z → false ≡ member c (line_row z r 0 line)
  crosses_none past =
      let below : length line * z ≤ c = omega (arith, mul-le-mul_right z past, div-mul-le_self c z) in
      sym (not_member_above c (line_row z r 0 line)
      (All-weaker (λ x. (0 ≤ x) × (x < 0 + length line * z)) (λ x. x < c) (λ x p. omega (arith, p.1, below)) (line_row z r 0 line) (line_columns z r 0 line pz)))

  module _ (e : ℤ) (h : c / z < length line) (at : e ≡ get_or line (c / z) (negsuc 0)) where
    crosses : member c (line_row z r 0 line) ≡ member c (square_row z r (c / z * z) (shift_of e))
    crosses =
        let start : 0 * z ≡ 0 = omega arith in
        sym (member_filter (λ k. eqb (k / z) (c / z)) c (eq-eqb _ _ refl) (line_row z r 0 line))
        ∙ ap (λ s. member c (filter (λ k. eqb (k / z) (c / z)) (line_row z r s line))) (sym start)
        ∙ ap (member c) (line_columns_in z r 0 (c / z) line pz (omega arith) (omega arith))
        ∙ ap (λ e. member c (square_row z r (c / z * z) (shift_of e))) (ap (λ i. get_or line i (negsuc 0)) (omega arith) ∙ sym at)

    pub crosses_empty : None ≡ shift_of e → false ≡ member c (line_row z r 0 line)
    crosses_empty n = sym (crosses ∙ ap (λ o. member c (square_row z r (c / z * z) o)) (sym n))

    same_place : (t : ℕ) → eqb t (c % z) ≡ member c ((c / z * z + t) ∷ [])
    same_place t =
        let parts : c / z * z + c % z ≡ c = omega (arith, div-add-mod c z, mul_comm z (c / z)) in
        ⊎_elim
        (λ (h : t ≡ c % z). eq-eqb t (c % z) h ∙ sym (ap (λ b. b || false) (eq-eqb (c / z * z + t) c (omega (arith, parts)))))
        (λ (ne : t ≡ c % z → ⊥). ne_eqb t (c % z) ne ∙ sym (ap (λ b. b || false) (ne_eqb (c / z * z + t) c (λ h. ne (omega (arith, parts))))))
        (cases_eq t (c % z))

    pub crosses_filled : (s : ℕ) → Some s ≡ shift_of e → eqb (turned z r s) (c % z) ≡ member c (line_row z r 0 line)
    crosses_filled s f = same_place (turned z r s) ∙ sym (crosses ∙ ap (λ o. member c (square_row z r (c / z * z) o)) (sym f))

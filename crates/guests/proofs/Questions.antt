-- What a row of every column answers.
use Rattle.std.proofs.Common.{◌≡◌, ℕ, ◌<◌, ◌≤◌, ltb, [], ◌∷◌, Some, sym, ap, ◌∙◌, arith, ⊎_elim}
use Rattle.std.specs.Bool.{then_some}
use Rattle.std.specs.List.{slice_get, range_with_len}
use Rattle.std.proofs.lemmas.Bool.{cases_lt, lt-ltb, le-ltb}
use Rattle.std.proofs.lemmas.List.{get_or_past}
use Rattle.std.proofs.lemmas.List.FromFn.{length-range_with_len, get_or-range_with_len}
use Rattle.std.proofs.lemmas.Option.{slice_get-get_or, slice_get_past}
use Rattle.codes.specs.Matrix.{ones, row_at, column_at}
use Rattle.guests.specs.Parities.{parity_matrix}

module _ (n : ℕ) where
  pub parity_ones : n ≡ ones (parity_matrix n)
  parity_ones = omega (arith, length-range_with_len 0 n)

  pub no_row : (r : ℕ) → (r ≡ 0 → ⊥) → row_at (parity_matrix n) r ≡ []
  no_row r e = get_or_past (range_with_len 0 n ∷ []) r [] (omega arith)

  pub first_row : (i : ℕ) → then_some (ltb i n) i ≡ column_at (parity_matrix n) 0 i
  first_row i = ⊎_elim inside past (cases_lt i n)
    where
      inside : i < n → then_some (ltb i n) i ≡ slice_get (range_with_len 0 n) i
      inside l = ap (λ b. then_some b i) (lt-ltb i n l) ∙ sym (slice_get-get_or (range_with_len 0 n) i i (omega (arith, length-range_with_len 0 n)) ∙ ap Some (get_or-range_with_len 0 n i i l ∙ omega arith))

      past : n ≤ i → then_some (ltb i n) i ≡ slice_get (range_with_len 0 n) i
      past l = ap (λ b. then_some b i) (le-ltb i n l) ∙ sym (slice_get_past (range_with_len 0 n) i (omega (arith, length-range_with_len 0 n)))

-- A row read square by square along its line.
use Rattle.std.proofs.Common.{◌≡◌, ℕ, suc, ◌+◌, ◌*◌, ◌<◌, ◌≤◌, true, List, ◌++◌, length, get_or, drop, ℤ, pos, negsuc, Some, None, Option, sym, ap, ◌∙◌, add-mul, one-mul, arith}
use Rattle.std.specs.List.{slice_get}
use Rattle.std.proofs.lemmas.List.{at_drop_more, at_drop_all}
use Rattle.std.proofs.lemmas.Bool.{ltb-true}
use Rattle.quasi_cyclic.specs.Entries.{shift_of, turned, square_row, line_row, entry_fits}

-- the shift of an entry in range is below z
pub shift_fits : (z s : ℕ) (e : ℤ) → entry_fits z e ≡ true → Some s ≡ shift_of e → s < z
shift_fits z s (pos t) f q = let same : s ≡ t = cc in omega (arith, ltb-true t z f)
shift_fits z s (negsuc t) f q = absurd (let o : ◌≡◌ {A = ℕ} 0 1 = cc in omega arith)

module _ (z r j : ℕ) (es : List ℤ) (h : j < length es) where
  abbrev rest : List ℕ
  rest = line_row z r ((j + 1) * z) (drop (j + 1) es)

  from : (o : Option ℕ) → o ≡ shift_of (get_or es j (pos 0)) → line_row z r (j * z) (drop j es) ≡ square_row z r (j * z) o ++ rest
  from o e =
      at_drop_more (line_row z r (j * z)) es j (pos 0) h
      ∙ ap (λ v. square_row z r (j * z) (shift_of (get_or es j (pos 0))) ++ line_row z r v (drop (j + 1) es)) (sym (add-mul j 1 z ∙ ap (λ v. j * z + v) (one-mul z)))
      ∙ ap (λ o. square_row z r (j * z) o ++ rest) (sym e)

  pub pick_here : (s : ℕ) → Some s ≡ shift_of (get_or es j (pos 0)) → slice_get (line_row z r (j * z) (drop j es)) 0 ≡ Some (j * z + turned z r s)
  pick_here s e = ap (λ row. slice_get row 0) (from (Some s) e)

  pub pick_next : (s left : ℕ) → Some s ≡ shift_of (get_or es j (pos 0)) → slice_get (line_row z r (j * z) (drop j es)) (suc left) ≡ slice_get rest left
  pick_next s left e = ap (λ row. slice_get row (suc left)) (from (Some s) e)

  pub pick_skip : (left : ℕ) → None ≡ shift_of (get_or es j (pos 0)) → slice_get (line_row z r (j * z) (drop j es)) left ≡ slice_get rest left
  pick_skip left e = ap (λ row. slice_get row left) (from None e)

pub pick_end : (z r j left : ℕ) (es : List ℤ) → length es ≤ j → slice_get (line_row z r (j * z) (drop j es)) left ≡ None
pick_end z r j left es h = ap (λ row. slice_get row left) (at_drop_all (line_row z r (j * z)) es j h)

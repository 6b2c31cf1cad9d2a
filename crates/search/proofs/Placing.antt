-- The row used for each column, row by row from the highest.
use Rattle.std.proofs.Common.{◌≡◌, ℕ, zero, suc, ◌+◌, ◌<◌, ◌≤◌, true, false, ◌⊎◌, List, [], ◌∷◌, ◌++◌, length, get_or, set, replicate, Some, None, Option, sym, refl, ap, ◌∙◌, subst, inl, inr, ⊎_elim, arith, length-set, get_or-set_other, get_or-set_same}
use Rattle.std.proofs.lemmas.List.{get_or-replicate, get_or_append_left}
use Rattle.std.proofs.lemmas.Bool.{cases_eq, eq-eqb, ne_eqb, cond-true, cond-false}
use Rattle.symbols.specs.Kinds.{Kind}
use Rattle.method.specs.Method.{Row, used_for, row_of, row_for, blank}
use Rattle.search.specs.declared.uses.Uses.{Uses}
use Rattle.search.specs.Found.{symbol_in}
use Rattle.search.specs.Places.{uses_for, Place, Placed}
use Rattle.search.specs.View.{use_of, lines}
use Rattle.search.proofs.Lines.{length_lines, line_at}

pub placed_none : (u : Uses) (m : ℕ) → Placed u m m (replicate 512 None)
placed_none u m = record {
  long = refl;
  each = λ c l. subst (Place u m m c) (sym (get_or-replicate {A = Option ℕ} 512 c None None l)) (λ q h k. absurd (omega arith));
}

module _ (u : Uses) (r m : ℕ) where
  -- row r is not used for c
  place_skip : (c : ℕ) (o : Option ℕ) → uses_for u c r ≡ false → Place u (r + 1) m c o → Place u r m c o
  place_skip c None e h = λ q l k. ⊎_elim (λ (z : q ≡ r). ap (uses_for u c) z ∙ e) (λ (ne : q ≡ r → ⊥). h q (omega arith) k) (cases_eq q r)
  place_skip c (Some i) e h =
      (omega (arith, h.0), h.1, h.2, λ q l k. ⊎_elim (λ (z : q ≡ r). ap (uses_for u c) z ∙ e) (λ (ne : q ≡ r → ⊥). h.3 q (omega arith) k) (cases_eq q r))

  module _ (rows : List (Option ℕ)) (h : Placed u (r + 1) m rows) where
    pub placed_unused : None ≡ use_of u r → Placed u r m rows
    placed_unused e = record { long = h.long; each = λ c l. place_skip c (get_or rows c None) (ap (used_for c) (sym e)) (h.each c l) }

    -- used for a column beyond the last
    pub placed_beyond : (d : ℕ) → Some d ≡ use_of u r → 512 ≤ d → Placed u r m rows
    placed_beyond d e far = record {
      long = h.long;
      each = λ c l. place_skip c (get_or rows c None) (ap (used_for c) (sym e) ∙ ne_eqb d c (omega arith)) (h.each c l);
    }

    pub placed_more : (d : ℕ) → r < m → Some d ≡ use_of u r → d < 512 → Placed u r m (set rows d (Some r))
    placed_more d in' e low = record { long = length-set rows d (Some r) ∙ h.long; each = λ c l. place c l (cases_eq c d) }
      where
        place : (c : ℕ) → c < 512 → (c ≡ d) ⊎ (c ≡ d → ⊥) → Place u r m c (get_or (set rows d (Some r)) c None)
        place c l (inl z) =
            subst (Place u r m c) (sym (ap (λ j. get_or (set rows d (Some r)) j None) z ∙ get_or-set_same rows d (Some r) None (omega (arith, h.long))))
            (omega arith, in', ap (used_for c) (sym e) ∙ eq-eqb d c (sym z), λ q a b. absurd (omega arith))
        place c l (inr ne) =
            subst (Place u r m c) (sym (get_or-set_other rows d c (Some r) None ne))
            (place_skip c (get_or rows c None) (ap (used_for c) (sym e) ∙ ne_eqb d c (λ z. ne (sym z))) (h.each c l))

-- the row used for c, as a walk from the lowest finds it
module _ {S : Type 0} (K : Kind S) (c : ℕ) where
  for_found : (rows : List (Row S)) (r : ℕ) → r < length rows → ((k : ℕ) → k < r → used_for c (row_of K rows k).used ≡ false) → used_for c (row_of K rows r).used ≡ true
      → row_for K c rows ≡ row_of K rows r
  for_found [] r l h e = absurd (omega arith)
  for_found (q ∷ rows) zero l h e = cond-true _ _ _ e
  for_found (q ∷ rows) (suc r) l h e = cond-false _ _ _ (h 0 (omega arith)) ∙ for_found rows r (omega arith) (λ k m. h (suc k) (omega arith)) e

  for_missed : (rows : List (Row S)) → ((k : ℕ) → k < length rows → used_for c (row_of K rows k).used ≡ false) → row_for K c rows ≡ blank K
  for_missed [] h = refl
  for_missed (q ∷ rows) h = cond-false _ _ _ (h 0 (omega arith)) ∙ for_missed rows (λ k m. h (suc k) (omega arith))

  module _ (n : ℕ) (ws : List ℕ) (ss : List S) (u : Uses) where
    uses_at : (q : ℕ) → q < length ss → used_for c (row_of K (lines K n ws ss u) q).used ≡ uses_for u c q
    uses_at q l = ap (λ (x : Row S). used_for c x.used) (line_at K n ws ss u q l)

    -- its right side
    pub place_right : (o : Option ℕ) → Place u 0 (length ss) c o → symbol_in K ss o ≡ (row_for K c (lines K n ws ss u)).right
    place_right None h =
        let long = length_lines K n ws ss u in
        sym (ap (λ (x : Row S). x.right) (for_missed (lines K n ws ss u) (λ k m. uses_at k (omega arith) ∙ h k (omega arith) (omega arith))))
    place_right (Some r) h =
        let long = length_lines K n ws ss u in
        let low : r < length ss = h.1 in
        sym (ap (λ (x : Row S). x.right)
        (for_found (lines K n ws ss u) r (omega arith) (λ k m. uses_at k (omega arith) ∙ h.3 k (omega arith) m) (uses_at r low ∙ h.2) ∙ line_at K n ws ss u r low))

  -- whatever lies behind the right sides
  pub place_within : (ss rest : List S) (u : Uses) (o : Option ℕ) → Place u 0 (length ss) c o → symbol_in K (ss ++ rest) o ≡ symbol_in K ss o
  place_within ss rest u None h = refl
  place_within ss rest u (Some r) h = get_or_append_left ss rest K.zero r h.1

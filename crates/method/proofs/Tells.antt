-- The answer tells exactly how many codewords agree, and gives the one.
use Rattle.std.proofs.Common.{◌≡◌, ℕ, ◌<◌, ◌≤◌, Bool, true, false, cond, not, eqb, ◌⊎◌, List, [], ◌∷◌, length, Some, None, Option, sym, refl, ap, ◌∙◌, subst, inl, inr, arith, ext_get_or}
use Rattle.std.proofs.lemmas.Bool.{true≢false, false≢true, cases_Bool, and_parts, not-true, not-false, eq-eqb, ne_eqb}
use Rattle.symbols.specs.Kinds.{Kind, Laws}
use Rattle.codes.specs.Matrix.{Matrix, Lawful}
use Rattle.method.specs.Sets.{has, table, lowest}
use Rattle.method.specs.Method.{Row, State, Choice, Outcome, none, one, several, missing, unused, row_of, blank, row_for, filled, clash, start_rows, final, answer_at, answer, method}
use Rattle.method.specs.Choices.{Naming}
use Rattle.method.specs.Fillings.{Agreeing, No, Only, One, Two, says_none, says_several, Exactly}
use Rattle.method.specs.Theorems.{TellsExactly, FinalState}
use Rattle.method.proofs.Marks.{has_below, missing_is, missing_from, get_or_table, length_table, lowest_some, lowest_none}
use Rattle.method.proofs.Sums.{sum_over, at, sum_zero, sum_none, sum_zeros}
use Rattle.method.proofs.Counts.{occ, occ_self, used_count}
use Rattle.method.proofs.Rows.{Solves}
use Rattle.method.proofs.Run.{is_none_is, Ended, final_fine}
use Rattle.method.proofs.Codes.{code_solves, solves_code}
use Rattle.method.proofs.Final.{free_is, unused_empty, ended_settled, value, Clean, OffUsed, value_free, value_solves, value_only}

-- what was received, with a solution at the missing places
abbrev pub filling : {S : Type 0} → Kind S → Matrix → List Bool → List S → List (Row S) → (ℕ → S) → List S
filling K k got syms rows y = table k.width (λ c. cond (has got c) (at K syms c) (value K rows y c))

-- the symbol x at f, and zero elsewhere
abbrev pub single : {S : Type 0} → Kind S → S → ℕ → ℕ → S
single K x f c = cond (eqb c f) x K.zero

-- a search of a lawful code that has ended in the state s
pub record Search {S P : Type 0} (K : Kind S) (k : Matrix) (got : List Bool) (syms : List S) (s : State S P) : Type 0 where
  pub lawful : Lawful k
  pub wide : length got ≡ k.width
  pub ended : Ended K (missing got) (start_rows K k got syms) s

module _ {S P : Type 0} {K : Kind S} (L : Laws K) {k : Matrix} {got : List Bool} {syms : List S} {s : State S P} (d : Search K k got syms s) where
  pub filling_got : (y : ℕ → S) (c : ℕ) → has got c ≡ true → at K (filling K k got syms s.rows y) c ≡ at K syms c
  filling_got y c h =
      get_or_table k.width (λ c. cond (has got c) (at K syms c) (value K s.rows y c)) c K.zero (omega (arith, has_below got c h, d.wide))
      ∙ ap (λ b. cond b (at K syms c) (value K s.rows y c)) h

  pub filling_missing : (y : ℕ → S) (c : ℕ) → has (missing got) c ≡ true → at K (filling K k got syms s.rows y) c ≡ value K s.rows y c
  filling_missing y c h =
      let t = missing_is got c h in
      get_or_table k.width (λ c. cond (has got c) (at K syms c) (value K s.rows y c)) c K.zero (omega (arith, t.1, d.wide))
      ∙ ap (λ b. cond b (at K syms c) (value K s.rows y c)) t.0

  -- it has the symbols y at the free pivots
  pub filling_free : (y : ℕ → S) (c : ℕ) → 1 ≤ occ c s.free → at K (filling K k got syms s.rows y) c ≡ y c
  filling_free y c o = let f = free_is d.ended c o in filling_missing y c f.0 ∙ value_free L d.ended y c f.1

  -- a codeword that agrees meets every row of the end
  meets : (w : List S) → Agreeing K k got syms w → Solves K s.rows (at K w)
  meets w g = d.ended.kept.onward (at K w) (code_solves L k.width got d.wide syms w g.agrees k.rows d.lawful.each g.codeword.sums)

  pub filling_agrees : Clean K s.rows → (y : ℕ → S) → OffUsed K s.rows y → Agreeing K k got syms (filling K k got syms s.rows y)
  filling_agrees clean y off = record {
    codeword = record {
      wide = length_table k.width (λ c. cond (has got c) (at K syms c) (value K s.rows y c));
      sums = solves_code L k.width got d.wide syms w (filling_got y) k.rows d.lawful.each
          (d.ended.kept.back (at K w) (value_solves L d.ended clean y off (at K w) (filling_missing y)));
    };
    agrees = filling_got y;
  }
    where
      w : List S
      w = filling K k got syms s.rows y

  -- every codeword that agrees is one, by its symbols at the free pivots
  pub filling_only : (w : List S) → Agreeing K k got syms w → (y : ℕ → S) → OffUsed K s.rows y → ((c : ℕ) → 1 ≤ occ c s.free → at K w c ≡ y c)
      → w ≡ filling K k got syms s.rows y
  filling_only w g y off same =
      ext_get_or K.zero w (filling K k got syms s.rows y)
      (g.codeword.wide ∙ sym (length_table k.width (λ c. cond (has got c) (at K syms c) (value K s.rows y c))))
      (λ c l. here c l (cases_Bool (has got c)))
    where
      here : (c : ℕ) → c < length w → (has got c ≡ true) ⊎ (has got c ≡ false) → at K w c ≡ at K (filling K k got syms s.rows y) c
      here c l (inl h) = g.agrees c h ∙ sym (filling_got y c h)
      here c l (inr h) =
          let mc = missing_from got c (omega (arith, g.codeword.wide, d.wide)) h in
          value_only L d.ended (at K w) (meets w g) y off same c mc ∙ sym (filling_missing y c mc)

  pub single_off : (x : S) (f : ℕ) → 1 ≤ occ f s.free → OffUsed K s.rows (single K x f)
  single_off x f o c u =
      ap (λ b. cond b x K.zero) (ne_eqb c f (λ z. omega (arith, (free_is d.ended f o).1, ap (λ d. used_count d s.rows) z)))

  -- a row clashes exactly where no codeword agrees
  pub clash_none : (r : ℕ) → lowest (clash K) s.rows ≡ Some r → No (Agreeing K k got syms)
  clash_none r q w g =
      let row : Row S = row_of K s.rows r in
      let t = and_parts (unused row) (not (K.is_zero row.right)) (lowest_some (clash K) (blank K) s.rows r q).0 in
      let z : row.right ≡ K.zero = sym (meets w g r) ∙ sum_none L row.cols (at K w) (unused_empty d.ended r (is_none_is row.used t.0)) in
      false≢true (sym (not-true (K.is_zero row.right) t.1) ∙ (L.tells_zero row.right).1 z)

  pub no_clash : lowest (clash K) s.rows ≡ None → Clean K s.rows
  no_clash q r u =
      let h : clash K (row_of K s.rows r) ≡ false = lowest_none (clash K) (blank K) (ap not ((L.tells_zero K.zero).1 refl)) s.rows q r in
      let h' : not (K.is_zero (row_of K s.rows r).right) ≡ false = rw u at h in
      (L.tells_zero (row_of K s.rows r).right).0 (not-false (K.is_zero (row_of K s.rows r).right) h')

  -- a right side is the solution with zero at the free pivots
  right_value : (c : ℕ) → (row_for K c s.rows).right ≡ value K s.rows (λ _. K.zero) c
  right_value c =
      let q : Row S = row_for K c s.rows in
      sym (L.sums.identity (K.sum q.right (sum_over K q.cols (λ _. K.zero)))
      ∙ ap (K.sum q.right) (sum_zeros L q.cols) ∙ sum_zero L q.right)

  -- the filling of an answer has zero at every free pivot
  filled_is : filled K k.width got syms s.rows ≡ filling K k got syms s.rows (λ _. K.zero)
  filled_is = λ i. table k.width (λ c. cond (has got c) (at K syms c) (right_value c i))

  tells_one : Clean K s.rows → ((c : ℕ) → occ c s.free ≡ 0) → Only (Agreeing K k got syms) (filled K k.width got syms s.rows)
  tells_one clean no_free =
      subst (Only (Agreeing K k got syms)) (sym filled_is)
      (filling_agrees clean (λ _. K.zero) (λ c u. refl), λ w g. filling_only w g (λ _. K.zero) (λ c u. refl) (λ c o. absurd (omega (arith, no_free c))))

  tells_several : Clean K s.rows → (f : ℕ) → 1 ≤ occ f s.free → Two (Agreeing K k got syms)
  tells_several clean f o = (of K.zero, of K.unit, fits K.zero, fits K.unit, λ z. L.distinct (sym (at_f K.unit) ∙ ap (λ w. at K w f) (sym z) ∙ at_f K.zero))
    where
      of : S → List S
      of x = filling K k got syms s.rows (single K x f)

      fits : (x : S) → Agreeing K k got syms (of x)
      fits x = filling_agrees clean (single K x f) (single_off x f o)

      at_f : (x : S) → at K (of x) f ≡ x
      at_f x = filling_free (single K x f) f o ∙ ap (λ b. cond b x K.zero) (eq-eqb f f refl)

-- what each answer says
abbrev Tells : {S : Type 0} → (List S → Type 0) → Outcome S → Type 0
Tells Q (none p a) = No Q
Tells Q (one p a w) = Only Q w
Tells Q (several p a f) = Two Q

not_two : {A : Type 0} {Q : A → Type 0} → One Q → Two Q → ⊥
not_two o t = t.4 (o.1.1 t.0 t.2 ∙ sym (o.1.1 t.1 t.3))

exactly : {S : Type 0} (Q : List S → Type 0) (o : Outcome S) → Tells Q o → Exactly Q o
exactly Q (none p a) t = record {
  none_when = (λ _. t, λ _. refl);
  one_when = (λ h. absurd (false≢true h), λ o. absurd (t o.0 o.1.0));
  several_when = (λ h. absurd (false≢true h), λ o. absurd (t o.0 o.2));
  filling = λ p a w h. absurd (true≢false (ap says_none h));
}
exactly {S} Q (one p a w) t = record {
  none_when = (λ h. absurd (false≢true h), λ n. absurd (n w t.0));
  one_when = (λ _. (w, t), λ _. refl);
  several_when = (λ h. absurd (false≢true h), λ o. absurd (not_two (w, t) o));
  filling = same;
}
  where
    same : (p' a' : ℕ) (v : List S) → one p a w ≡ one p' a' v → Only Q v
    same p' a' v h = let z : w ≡ v = cc in subst (Only Q) z t
exactly Q (several p a f) t = record {
  none_when = (λ h. absurd (false≢true h), λ n. absurd (n t.0 t.2));
  one_when = (λ h. absurd (false≢true h), λ o. absurd (not_two o t));
  several_when = (λ _. t, λ _. refl);
  filling = λ p a w h. absurd (true≢false (ap says_several h));
}

module _ {S : Type 0} {K : Kind S} (L : Laws K) {P : Type 0} where
  pub final_search : (choice : Choice P) → Naming choice → (k : Matrix) → Lawful k → (got : List Bool) → length got ≡ k.width → (syms : List S) (p : P)
      → Search K k got syms (final K choice k got syms p)
  final_search choice naming k ok got wide syms p = record { lawful = ok; wide = wide; ended = final_fine L choice naming k got wide syms p }

  pub tells_exactly : TellsExactly S K P
  unfolding answer method
  tells_exactly choice naming k ok got wide syms p = exactly (Agreeing K k got syms) (method K choice k got syms p) (go (lowest (clash K) s.rows) refl s.free refl)
    where
      s : State S P
      s = final K choice k got syms p

      d : Search K k got syms s
      d = final_search choice naming k ok got wide syms p

      go : (o : Option ℕ) → lowest (clash K) s.rows ≡ o → (fs : List ℕ) → s.free ≡ fs
          → Tells (Agreeing K k got syms) (answer_at o (length s.pivots) s.additions fs (filled K k.width got syms s.rows))
      go (Some r) q fs f = clash_none L d r q
      go None q [] f = tells_one L d (no_clash L d q) (λ c. ap (occ c) f)
      go None q (g ∷ gs) f = tells_several L d (no_clash L d q) g (omega (arith, ap (occ g) f, occ_self g gs))

  pub final_state : FinalState S K P
  final_state choice naming k ok got wide syms p = ended_settled (final_fine L choice naming k got wide syms p)

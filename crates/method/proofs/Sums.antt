-- Sums of symbols over sets of places and over listed places.
use Rattle.std.proofs.Common.{◌≡◌, ℕ, zero, suc, ◌<◌, Bool, true, false, not, ◌||◌, List, [], ◌∷◌, length, get_or, set, sym, refl, ap, ◌∙◌, ap₂}
use Rattle.std.specs.List.{AllByRecursion}
use Rattle.std.proofs.lemmas.Bool.{true≢false, false≢true, eq-eqb}
use Rattle.symbols.specs.Kinds.{Kind, Laws}
use Rattle.symbols.specs.Sums.{sum_at}
use Rattle.codes.specs.Matrix.{member}
use Rattle.codes.specs.Matrix.{Row as LawfulRow}
use Rattle.method.specs.Sets.{has, differs, sym_diff, marks, kept_if, marked}
use Rattle.method.specs.Method.{missing}
use Rattle.method.proofs.Marks.{has_marks, marks_none, marks_less, has_missing}

module _ {S : Type 0} (K : Kind S) where
  abbrev pub sum_if : Bool → S → S → S
  sum_if true x y = K.sum x y
  sum_if false x y = y

  -- the sum of f over the marked places
  abbrev pub sum_over : List Bool → (ℕ → S) → S
  sum_over [] f = K.zero
  sum_over (b ∷ s) f = sum_if b (f 0) (sum_over s (λ c. f (suc c)))

  -- the symbol of a filling at a place
  abbrev pub at : List S → ℕ → S
  at w c = get_or w c K.zero

  -- the sum of a filling's symbols at the places listed
  abbrev pub sum_of : List S → List ℕ → S
  sum_of w row = sum_at K.zero K.sum w row

module _ {S : Type 0} {K : Kind S} (L : Laws K) where
  pub sum_zero : (x : S) → K.sum x K.zero ≡ x
  sum_zero x = L.sums.commutative x K.zero ∙ L.sums.identity x

  pub sum_swap : (x y z : S) → K.sum x (K.sum y z) ≡ K.sum y (K.sum x z)
  sum_swap x y z = sym (L.sums.associative x y z) ∙ ap (λ w. K.sum w z) (L.sums.commutative x y) ∙ L.sums.associative y x z

  pub sum_twice : (x y : S) → K.sum x (K.sum x y) ≡ y
  sum_twice x y = sym (L.sums.associative x x y) ∙ ap (λ w. K.sum w y) (L.cancels x) ∙ L.sums.identity y

  -- a part of a sum moves to the other side
  pub sum_move : (x a b : S) → K.sum x a ≡ b → x ≡ K.sum b a
  sum_move x a b e = sym (sum_twice a x) ∙ ap (λ w. K.sum a w) (L.sums.commutative a x ∙ e) ∙ L.sums.commutative a b

  sum_if_diff : (a b : Bool) (x y z : S) → sum_if K (differs a b) x (K.sum y z) ≡ K.sum (sum_if K a x y) (sum_if K b x z)
  sum_if_diff true true x y z = sym (simp (L.sums.associative, sum_swap, sum_twice))
  sum_if_diff true false x y z = sym (L.sums.associative x y z)
  sum_if_diff false true x y z = sum_swap x y z
  sum_if_diff false false x y z = refl

  -- the sum over a symmetric difference
  pub sum_diff : (s t : List Bool) (f : ℕ → S) → sum_over K (sym_diff s t) f ≡ K.sum (sum_over K s f) (sum_over K t f)
  sum_diff [] t f = sym (L.sums.identity (sum_over K t f))
  sum_diff (a ∷ s) [] f = sym (sum_zero (sum_over K (a ∷ s) f))
  sum_diff (a ∷ s) (b ∷ t) f =
      ap (λ w. sum_if K (differs a b) (f 0) w) (sum_diff s t (λ c. f (suc c)))
      ∙ sum_if_diff a b (f 0) (sum_over K s (λ c. f (suc c))) (sum_over K t (λ c. f (suc c)))

  -- equal symbols at the marked places give equal sums
  pub sum_same : (s : List Bool) (f g : ℕ → S) → ((c : ℕ) → has s c ≡ true → f c ≡ g c) → sum_over K s f ≡ sum_over K s g
  sum_same [] f g h = refl
  sum_same (true ∷ s) f g h = ap₂ K.sum (h 0 refl) (sum_same s (λ c. f (suc c)) (λ c. g (suc c)) (λ c. h (suc c)))
  sum_same (false ∷ s) f g h = sum_same s (λ c. f (suc c)) (λ c. g (suc c)) (λ c. h (suc c))

  pub sum_none : (s : List Bool) (f : ℕ → S) → ((c : ℕ) → has s c ≡ false) → sum_over K s f ≡ K.zero
  sum_none [] f h = refl
  sum_none (true ∷ s) f h = absurd (true≢false (h 0))
  sum_none (false ∷ s) f h = sum_none s (λ c. f (suc c)) (λ c. h (suc c))

  -- one place taken out of the sum
  pub sum_one : (s : List Bool) (c : ℕ) (f : ℕ → S) → has s c ≡ true → sum_over K s f ≡ K.sum (f c) (sum_over K (set s c false) f)
  sum_one [] c f h = absurd (false≢true h)
  sum_one (true ∷ s) zero f h = refl
  sum_one (false ∷ s) zero f h = absurd (false≢true h)
  sum_one (true ∷ s) (suc c) f h =
      ap (λ w. K.sum (f 0) w) (sum_one s c (λ i. f (suc i)) h)
      ∙ sum_swap (f 0) (f (suc c)) (sum_over K (set s c false) (λ i. f (suc i)))
  sum_one (false ∷ s) (suc c) f h = sum_one s c (λ i. f (suc i)) h

  -- sets with the same marks have the same sum
  pub sum_marks : (s t : List Bool) (f : ℕ → S) → ((c : ℕ) → has s c ≡ has t c) → sum_over K s f ≡ sum_over K t f
  sum_marks [] t f h = sym (sum_none t f (λ c. sym (h c)))
  sum_marks (a ∷ s) [] f h = sum_none (a ∷ s) f h
  sum_marks (a ∷ s) (b ∷ t) f h =
      ap₂ (λ x y. sum_if K x (f 0) y) (h 0) (sum_marks s t (λ c. f (suc c)) (λ c. h (suc c)))

  pub sum_zeros : (s : List Bool) → sum_over K s (λ _. K.zero) ≡ K.zero
  sum_zeros [] = refl
  sum_zeros (true ∷ s) = L.sums.identity (sum_over K s (λ _. K.zero)) ∙ sum_zeros s
  sum_zeros (false ∷ s) = sum_zeros s

  -- the sum at listed places is that over their marks
  pub total_marks : (n : ℕ) (row : List ℕ) → LawfulRow n row → (w : List S) → sum_of K w row ≡ sum_over K (marks n row) (at K w)
  total_marks n [] d w = sym (sum_none (marks n []) (at K w) (marks_none n))
  total_marks n (c ∷ cs) d w =
      let hc : has (marks n (c ∷ cs)) c ≡ true = has_marks n (c ∷ cs) c d.within.0 ∙ ap (λ b. b || member c cs) (eq-eqb c c refl) in
      ap (K.sum (at K w c))
      (total_marks n cs (record { within = d.within.1; apart = d.apart.1 }) w
      ∙ sym (sum_marks (set (marks n (c ∷ cs)) c false) (marks n cs) (at K w) (marks_less n c cs d.within.0 d.apart.0)))
      ∙ sym (sum_one (marks n (c ∷ cs)) c (at K w) hc)

  -- the sum at listed places is that at the missing ones and that at the received ones
  pub total_split : (got : List Bool) (w : List S) (row : List ℕ) → AllByRecursion (λ c. c < length got) row
      → sum_of K w row ≡ K.sum (sum_of K w (marked (missing got) row)) (sum_of K w (marked got row))
  total_split got w [] h = sym (L.sums.identity K.zero)
  total_split got w (c ∷ cs) h = go (has got c) (has (missing got) c) (has_missing got c h.0) (total_split got w cs h.1)
    where
      lost : S
      lost = sum_of K w (marked (missing got) cs)

      kept : S
      kept = sum_of K w (marked got cs)

      go : (b m : Bool) → m ≡ not b → sum_of K w cs ≡ K.sum lost kept
          → K.sum (at K w c) (sum_of K w cs) ≡ K.sum (sum_of K w (kept_if m c (marked (missing got) cs))) (sum_of K w (kept_if b c (marked got cs)))
      go true true e ih = absurd (true≢false e)
      go true false e ih = ap (K.sum (at K w c)) ih ∙ sum_swap (at K w c) lost kept
      go false true e ih = ap (K.sum (at K w c)) ih ∙ sym (L.sums.associative (at K w c) lost kept)
      go false false e ih = absurd (false≢true e)

  -- fillings that are equal at the marked places have equal sums there
  pub total_same : (s : List Bool) (v w : List S) → ((c : ℕ) → has s c ≡ true → at K v c ≡ at K w c) → (row : List ℕ) → sum_of K v (marked s row) ≡ sum_of K w (marked s row)
  total_same s v w h [] = refl
  total_same s v w h (c ∷ cs) = go (has s c) refl (total_same s v w h cs)
    where
      go : (b : Bool) → has s c ≡ b → sum_of K v (marked s cs) ≡ sum_of K w (marked s cs) → sum_of K v (kept_if b c (marked s cs)) ≡ sum_of K w (kept_if b c (marked s cs))
      go true e ih = ap₂ K.sum (h c e) ih
      go false e ih = ih

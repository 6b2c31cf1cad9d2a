-- The labels that pairs give to columns, and the pairs that rows give.
use Rattle.std.proofs.Common.{◌≡◌, ℕ, ◌+◌, ◌<◌, ◌≤◌, min, max, Bool, true, false, ◌≢◌, List, [], ◌∷◌, map, length, Some, None, Option, sym, refl, ap, ◌∙◌, subst, ⊎_elim, add-one, arith}
use lib.ListN.{length-map}
use Rattle.std.specs.List.{range_with_len, AllByRecursion}
use Rattle.std.proofs.lemmas.List.FromFn.{length-range_with_len, get_or-range_with_len}
use Rattle.std.proofs.lemmas.List.{get_or_past, get_or-map}
use Rattle.std.specs.Option.{MatchOption}
use Rattle.std.proofs.lemmas.Bool.{cases_lt, cases_eq, false≢true}
use Rattle.codes.specs.Matrix.{Matrix, row_at}
use Rattle.method.specs.Sets.{has, kept_if, marked}
use Rattle.method.specs.Choices.{pair_of, with_pair, joins, merged, label, labels}
use Rattle.method.proofs.Marks.{has_below}
use Rattle.policies.specs.Numbers.{at}
use Rattle.policies.specs.Forests.{Labelled, joined}
use Rattle.policies.specs.Drawings.{some_of, Drawn}
use Rattle.policies.specs.declared.forest.Forest.{Forest}
use Rattle.policies.proofs.Trees.{turned, unturned}
use Rattle.std.proofs.lemmas.Option.{none-some}

pub merged_hit : (x y l : ℕ) → l ≡ max x y → merged x y l ≡ min x y
merged_hit x y l e = turned (max x y) (min x y) l e

pub merged_miss : (x y l : ℕ) → l ≢ max x y → merged x y l ≡ l
merged_miss x y l n = unturned (max x y) (min x y) l n

merged_low : (x y l : ℕ) → merged x y l ≤ l
merged_low x y l =
    ⊎_elim (λ (e : l ≡ max x y). omega (arith, merged_hit x y l e)) (λ (n : l ≡ max x y → ⊥). omega (arith, merged_miss x y l n)) (cases_eq l (max x y))

-- without a pair each column is its own label
pub label_start : (n c : ℕ) → label (labels n []) c ≡ c
label_start n c =
    ⊎_elim (λ (l : c < n). get_or-range_with_len 0 n c c l ∙ omega arith) (λ (l : n ≤ c). get_or_past (range_with_len 0 n) c c (omega (arith, length-range_with_len 0 n))) (cases_lt c n)

length_labels : (n : ℕ) (es : List (ℕ × ℕ)) → length (labels n es) ≡ n
length_labels n [] = length-range_with_len 0 n
length_labels n (e ∷ es) = length-map (labels n es) (merged (label (labels n es) e.0) (label (labels n es) e.1)) ∙ length_labels n es

-- a label is not above its column
pub label_low : (n : ℕ) (es : List (ℕ × ℕ)) (c : ℕ) → label (labels n es) c ≤ c
label_low n [] c = omega (arith, label_start n c)
label_low n (e ∷ es) c =
    let ls : List ℕ = labels n es in
    let x : ℕ = label ls e.0 in
    let y : ℕ = label ls e.1 in
    ⊎_elim (λ (l : c < length ls). omega (arith, get_or-map (merged x y) ls c c c l, merged_low x y (label ls c), label_low n es c))
    (λ (l : length ls ≤ c). omega (arith, get_or_past (map (merged x y) ls) c c (omega (arith, length-map ls (merged x y)))))
    (cases_lt c (length ls))

-- one more pair of columns below n
pub label_more : (n : ℕ) (es : List (ℕ × ℕ)) (x y : ℕ) → x < n → y < n → (c : ℕ) → label (labels n ((x, y) ∷ es)) c ≡ joined (label (labels n es)) x y c
label_more n es x y lx ly c =
    let ls : List ℕ = labels n es in
    let p : ℕ = label ls x in
    let q : ℕ = label ls y in
    ⊎_elim (λ (l : c < length ls). get_or-map (merged p q) ls c c c l)
    (λ (l : length ls ≤ c).
    get_or_past (map (merged p q) ls) c c (omega (arith, length-map ls (merged p q)))
    ∙ sym (ap (merged p q) (get_or_past ls c c l) ∙ merged_miss p q c (omega (arith, length_labels n es, label_low n es x, label_low n es y))))
    (cases_lt c (length ls))

forest_like : (up : List ℕ) (f g : ℕ → ℕ) → ((c : ℕ) → g c ≡ f c) → Labelled up f → Labelled up g
forest_like up f g e h = record { falling = h.falling; keeps = λ c l. e (at up c) ∙ h.keeps c l ∙ sym (e c); root = λ c l o. e c ∙ h.root c l o }

-- the columns of a pair are active
marked_active : (a : List Bool) (row : List ℕ) → AllByRecursion (λ c. has a c ≡ true) (marked a row)
marked_active a [] = tt
marked_active a (c ∷ cs) = go (has a c) refl (marked_active a cs)
  where
    go : (b : Bool) → has a c ≡ b → AllByRecursion (λ c. has a c ≡ true) (marked a cs) → AllByRecursion (λ c. has a c ≡ true) (kept_if b c (marked a cs))
    go true e ih = (e, ih)
    go false e ih = ih

pair_all : (P : ℕ → Type 0) (xs : List ℕ) (x y : ℕ) → Some (x, y) ≡ pair_of xs → AllByRecursion P xs → P x × P y
pair_all P [] x y e h = absurd (none-some _ (sym e))
pair_all P (p ∷ []) x y e h = absurd (none-some _ (sym e))
pair_all P (p ∷ (q ∷ [])) x y e h =
    let z : ◌≡◌ {A = ℕ × ℕ} (p, q) (x, y) = cc in
    (subst P (ap (λ t. t.0) z) h.0, subst P (ap (λ t. t.1) z) h.1.0)
pair_all P (p ∷ (q ∷ (r ∷ rs))) x y e h = absurd (none-some _ (sym e))

pub pair_below : (k : Matrix) (a : List Bool) (r x y : ℕ) → Some (x, y) ≡ pair_of (marked a (row_at k r)) → (x < length a) × (y < length a)
pair_below k a r x y e =
    let t = pair_all (λ c. has a c ≡ true) (marked a (row_at k r)) x y e (marked_active a (row_at k r)) in
    (has_below a x t.0, has_below a y t.1)

-- the pairs of one row more
joins_more : (k : Matrix) (a u : List Bool) (r : ℕ) (b : Bool) (o : Option (ℕ × ℕ)) → b ≡ has u r → o ≡ pair_of (marked a (row_at k r)) → with_pair b o (joins k a u r) ≡ joins k a u (r + 1)
joins_more k a u r b o e f =
    ap (λ t. with_pair b t (joins k a u r)) f ∙ ap (λ t. with_pair t (pair_of (marked a (row_at k r))) (joins k a u r)) e ∙ sym (ap (joins k a u) (add-one r))

no_pair : {X : Type 0} (es : List X) → false ≡ some_of es → es ≡ []
no_pair [] e = refl
no_pair (x ∷ xs) e = absurd (false≢true e)

-- what is drawn of some rows, and of one row more
pub drawn_start : (n : ℕ) → Drawn n [] None
drawn_start n = record { tells = refl; forest = tt }

module _ (k : Matrix) (a u : List Bool) (r : ℕ) (drawn : Option Forest) (h : Drawn (length a) (joins k a u r) drawn) where
  pub drawn_idle : false ≡ has u r → Drawn (length a) (joins k a u (r + 1)) drawn
  drawn_idle e = subst (λ es. Drawn (length a) es drawn) (joins_more k a u r false _ e refl) h

  pub drawn_other : true ≡ has u r → None ≡ pair_of (marked a (row_at k r)) → Drawn (length a) (joins k a u (r + 1)) drawn
  drawn_other e f = subst (λ es. Drawn (length a) es drawn) (joins_more k a u r true None e f) h

  -- the forest that is there, or a new one where no pair came yet
  forest_so_far : (t : Forest) → MatchOption drawn (Labelled t.up (λ c. c)) (λ d. t ≡ d) → Labelled t.up (label (labels (length a) (joins k a u r)))
  forest_so_far t m = go drawn m h
    where
      go : (d : Option Forest) → MatchOption d (Labelled t.up (λ c. c)) (λ d. t ≡ d) → Drawn (length a) (joins k a u r) d → Labelled t.up (label (labels (length a) (joins k a u r)))
      go None alone h =
          let none = no_pair (joins k a u r) h.tells in
          forest_like t.up (λ c. c) (label (labels (length a) (joins k a u r))) (λ c. ap (λ es. label (labels (length a) es) c) none ∙ label_start (length a) c) alone
      go (Some d) e h = subst (λ (t : Forest). Labelled t.up (label (labels (length a) (joins k a u r)))) (sym e) h.forest

  pub drawn_pair : (x y : ℕ) (t next : Forest) → true ≡ has u r → Some (x, y) ≡ pair_of (marked a (row_at k r)) → MatchOption drawn (Labelled t.up (λ c. c)) (λ d. t ≡ d)
      → ((f : ℕ → ℕ) → Labelled t.up f → Labelled next.up (joined f x y)) → Drawn (length a) (joins k a u (r + 1)) (Some next)
  drawn_pair x y t next e f m j =
      let l = pair_below k a r x y f in
      let n : ℕ = length a in
      let es : List (ℕ × ℕ) = joins k a u r in
      let d : Drawn (length a) ((x, y) ∷ joins k a u r) (Some next) = record {
        tells = refl;
        forest = forest_like next.up (joined (label (labels n es)) x y) (label (labels n ((x, y) ∷ es))) (label_more n es x y l.0 l.1) (j (label (labels n es)) (forest_so_far t m));
      } in
      subst (λ es. Drawn (length a) es (Some next)) (joins_more k a u r true (Some (x, y)) e f) d

-- What the policies name is heavy, and leads a component.
use Rattle.std.proofs.Common.{◌≡◌, ℕ, zero, suc, ◌<◌, ◌≤◌, Bool, true, false, eqb, ◌⊎◌, List, [], ◌∷◌, length, Some, None, Option, sym, refl, ap, ◌∙◌, inl, inr, ⊎_elim, arith}
use Rattle.std.specs.List.{AllByRecursion}
use Rattle.std.proofs.lemmas.Bool.{cases_lt, cases_eq, both_ways, eq-eqb, eqb-true, and_parts, and_from}
use Rattle.codes.specs.Matrix.{Matrix, Lawful, height}
use Rattle.method.specs.Sets.{has, bump}
use Rattle.method.specs.Choices.{Names, count_to, column_weight, heaviest, joins, label, labels, in_set, size_of, top, largest, largest_of, or_below}
use Rattle.method.proofs.Marks.{has_below}
use Rattle.method.proofs.Tops.{Best, top_best, top_names}
use Rattle.policies.specs.Relations.{Linked, Joined, Connected, size, Leads, Heavy, ComponentLeads}
use Rattle.policies.proofs.Labels.{label_low}
use Rattle.policies.proofs.Edges.{joins_linked, edge_pair}
use Rattle.policies.proofs.Components.{still_active, labels_joined, pair_labels, label_own, joined_labels}

pub heavy : (k : Matrix) (a u : List Bool) (c : ℕ) → heaviest k a u ≡ Some c → Heavy k a u c
heavy k a u c e =
    let b : Best (column_weight k u) a (length a) c = top_best (column_weight k u) a c e in
    record {
      active = b.active;
      heaviest = λ d h. b.most d (has_below a d h) h;
      lowest = λ d h q. ⊎_elim (λ (l : d < c). absurd (omega (arith, b.tie d l h))) (λ (l : c ≤ d). l) (cases_lt d c);
    }

-- counts: of more, of one, of none
count_mono : (t s : ℕ → Bool) (n : ℕ) → ((d : ℕ) → t d ≡ true → s d ≡ true) → count_to t n ≤ count_to s n
count_mono t s zero h = omega arith
count_mono t s (suc n) h = go (t n) refl (s n) refl (count_mono t s n h)
  where
    go : (b : Bool) → t n ≡ b → (b' : Bool) → s n ≡ b' → count_to t n ≤ count_to s n → bump b (count_to t n) ≤ bump b' (count_to s n)
    go true e true f l = omega arith
    go true e false f l = absurd (both_ways (s n) f (h n e))
    go false e true f l = omega arith
    go false e false f l = l

count_one : (t : ℕ → Bool) (n d : ℕ) → d < n → t d ≡ true → 1 ≤ count_to t n
count_one t zero d l h = absurd (omega arith)
count_one t (suc n) d l h = go (cases_eq d n) (t n) refl (count_one t n d)
  where
    go : (d ≡ n) ⊎ (d ≡ n → ⊥) → (b : Bool) → t n ≡ b → (d < n → t d ≡ true → 1 ≤ count_to t n) → 1 ≤ bump b (count_to t n)
    go q true e ih = omega arith
    go (inl q) false e ih = absurd (both_ways (t n) e (ap t (sym q) ∙ h))
    go (inr m) false e ih = ih (omega arith) h

count_some : (t : ℕ → Bool) (n : ℕ) → 1 ≤ count_to t n → (d : ℕ) × (t d ≡ true)
count_some t zero l = absurd (omega arith)
count_some t (suc n) l = go (t n) refl l (count_some t n)
  where
    go : (b : Bool) → t n ≡ b → 1 ≤ bump b (count_to t n) → (1 ≤ count_to t n → (d : ℕ) × (t d ≡ true)) → (d : ℕ) × (t d ≡ true)
    go true e l ih = (n, e)
    go false e l ih = ih l

-- the best column by the sizes of labels leads a component, where the pairs are the edges
module _ (k : Matrix) (a u : List Bool) (es : List (ℕ × ℕ)) (h : AllByRecursion (λ e. Linked k a u e.0 e.1) es)
    (edges : (x y : ℕ) → Linked k a u x y → label (labels (length a) es) x ≡ label (labels (length a) es) y)
    (c x : ℕ) (hx : has a x ≡ true) (b : Best (size_of a (label (labels (length a) es))) a (length a) c) where
  abbrev f : ℕ → ℕ
  f = label (labels (length a) es)

  abbrev its_set : ℕ → Bool
  its_set = in_set a (label (labels (length a) es)) c

  one_label : (y z : ℕ) → Joined k a u y z → f y ≡ f z
  one_label y z j = joined_labels k a u f edges y z j

  in_own : (z : ℕ) → has a z ≡ true → in_set a f (f z) z ≡ true
  in_own z hz = and_from (has a z) (eqb (f z) (f z)) hz (eq-eqb (f z) (f z) refl)

  label_active : (z : ℕ) → has a z ≡ true → has a (f z) ≡ true
  label_active z hz = still_active k a u z (f z) (labels_joined k a u es h z (f z) (sym (label_own k a u es h z))) hz

  some_size : 1 ≤ size_of a f c
  some_size = omega (arith, b.most (f x) (has_below a (f x) (label_active x hx)) (label_active x hx), count_one (in_set a f (f x)) (length a) x (has_below a x hx) (in_own x hx))

  from_set : (z : ℕ) → its_set z ≡ true → (has a z ≡ true) × (f z ≡ c)
  from_set z q = let t = and_parts (has a z) (eqb (f z) c) q in (t.0, eqb-true (f z) c t.1)

  to_set : (z : ℕ) → has a z ≡ true → f z ≡ c → its_set z ≡ true
  to_set z hz e = and_from (has a z) (eqb (f z) c) hz (eq-eqb (f z) c e)

  own : f c ≡ c
  own =
      let t = count_some its_set (length a) some_size in
      let e : f t.0 ≡ c = (from_set t.0 t.1).1 in
      ap f (sym e) ∙ label_own k a u es h t.0 ∙ e

  connected : Connected k a u its_set
  connected = record {
    one = (c, to_set c b.active own);
    active = λ z q. (from_set z q).0;
    joined = λ y z p q. labels_joined k a u es h y z ((from_set y p).1 ∙ sym (from_set z q).1);
    whole = λ y z p j. to_set z (still_active k a u y z j (from_set y p).0) (sym (one_label y z j) ∙ (from_set y p).1);
  }

  -- another component lies within the columns of one label
  module _ (t : ℕ → Bool) (w : Connected k a u t) where
    abbrev l : ℕ
    l = f w.one.0

    its_label : (d : ℕ) → t d ≡ true → f d ≡ l
    its_label d q = sym (one_label w.one.0 d (w.joined w.one.0 d w.one.1 q))

    l_active : has a l ≡ true
    l_active = label_active w.one.0 (w.active w.one.0 w.one.1)

    within : size a t ≤ size_of a f l
    within = count_mono t (in_set a f l) (length a) (λ d q. and_from (has a d) (eqb (f d) l) (w.active d q) (eq-eqb (f d) l (its_label d q)))

    no_larger : size a t ≤ size_of a f c
    no_larger = omega (arith, within, b.most l (has_below a l l_active) l_active)

    no_lower : size a t ≡ size_of a f c → (d : ℕ) → t d ≡ true → c ≤ d
    no_lower e d q =
        ⊎_elim (λ (s : l < c). absurd (omega (arith, b.tie l s l_active, within, e))) (λ (s : c ≤ l). omega (arith, its_label d q, label_low (length a) es d))
        (cases_lt l c)

  pub leads_by : Leads k a u c
  leads_by = record {
    set = its_set;
    component = connected;
    in_it = to_set c b.active own;
    lowest = λ d q. omega (arith, (from_set d q).1, label_low (length a) es d);
    largest = no_larger;
    tie = no_lower;
  }

-- with an edge, what is named leads a component
largest_leads : (k : Matrix) → Lawful k → (a u : List Bool) (x y : ℕ) → Linked k a u x y → (c : ℕ) × (largest k a u ≡ Some c) × Leads k a u c
largest_leads k ok a u x y w = go (joins k a u (height k)) (joins_linked k ok a u (height k)) (λ P. edge_pair k ok a u P)
  where
    go : (es : List (ℕ × ℕ)) → AllByRecursion (λ e. Linked k a u e.0 e.1) es → ((P : ℕ × ℕ → Type 0) → AllByRecursion P es → (x y : ℕ) → Linked k a u x y → P (x, y) ⊎ P (y, x))
        → (c : ℕ) × (largest_of a es ≡ Some c) × Leads k a u c
    go [] h each = ⊎_elim (λ (i : ⊥). absurd i) (λ (i : ⊥). absurd i) (each (λ e. ⊥) tt x y w)
    go (e ∷ es) h each = pick (top s a) refl (top_names s a)
      where
        f : ℕ → ℕ
        f = label (labels (length a) (e ∷ es))

        s : ℕ → ℕ
        s = size_of a f

        edges : (x y : ℕ) → Linked k a u x y → f x ≡ f y
        edges x y w =
            ⊎_elim (λ (q : f x ≡ f y). q) (λ (q : f y ≡ f x). sym q) (each (λ e. f e.0 ≡ f e.1) (pair_labels k a u (e ∷ es) h) x y w)

        pick : (o : Option ℕ) → top s a ≡ o → Names a o → (c : ℕ) × (largest_of a (e ∷ es) ≡ Some c) × Leads k a u c
        pick None q n = absurd (both_ways (has a x) (n x) w.active_x)
        pick (Some c) q n = (c, q, leads_by k a u (e ∷ es) h edges c x w.active_x (top_best s a c q))

-- without an edge nothing is
largest_none : (k : Matrix) → Lawful k → (a u : List Bool) → ((x y : ℕ) → Linked k a u x y → ⊥) → largest k a u ≡ None
largest_none k ok a u n = go (joins k a u (height k)) (joins_linked k ok a u (height k))
  where
    go : (es : List (ℕ × ℕ)) → AllByRecursion (λ e. Linked k a u e.0 e.1) es → largest_of a es ≡ None
    go [] h = refl
    go (e ∷ es) h = absurd (n e.0 e.1 h.0)

pub component_leads : (P : Type 0) → ComponentLeads P
component_leads P = record {
  leads = λ k ok below p a u x y w. let t = largest_leads k ok a u x y w in (t.0, ap (λ o. or_below o p (below p a u)) t.1, t.2);
  passes_on = λ k ok below p a u n. ap (λ o. or_below o p (below p a u)) (largest_none k ok a u n);
}

-- Labels and components: columns have one label exactly where edges join them.
use Rattle.std.proofs.Common.{◌≡◌, ℕ, ◌<◌, ◌≤◌, min, max, Bool, true, ◌⊎◌, List, [], ◌∷◌, length, sym, refl, ap, ◌∙◌, subst, inl, inr, ⊎_elim, arith}
use Rattle.std.specs.List.{AllByRecursion}
use Rattle.std.proofs.ByRecursion.{All-weaker}
use Rattle.std.proofs.lemmas.Bool.{cases_lt, cases_eq}
use Rattle.codes.specs.Matrix.{Matrix}
use Rattle.method.specs.Sets.{has}
use Rattle.method.specs.Choices.{merged, label, labels}
use Rattle.method.proofs.Marks.{has_below}
use Rattle.policies.specs.Forests.{joined}
use Rattle.policies.specs.Relations.{Linked, Joined, same, link}
use Rattle.policies.proofs.Labels.{merged_hit, merged_miss, label_start, label_more}
use Rattle.policies.proofs.Trees.{for_min}

-- two labels that are merged become one, and only those two do
merged_both : (x y : ℕ) → merged x y x ≡ merged x y y
merged_both x y = go (cases_lt x y) (cases_eq x y)
  where
    go : (x < y) ⊎ (y ≤ x) → (x ≡ y) ⊎ (x ≡ y → ⊥) → merged x y x ≡ merged x y y
    go (inl l) w = merged_miss x y x (omega arith) ∙ sym (merged_hit x y y (omega arith) ∙ omega arith)
    go (inr l) (inl e) = ap (merged x y) e
    go (inr l) (inr n) = merged_hit x y x (omega arith) ∙ sym (merged_miss x y y (omega arith) ∙ omega arith)

merged_same : (x y l m : ℕ) → merged x y l ≡ merged x y m → (l ≡ m) ⊎ (((l ≡ x) × (m ≡ y)) ⊎ ((l ≡ y) × (m ≡ x)))
merged_same x y l m e = go (cases_eq l (max x y)) (cases_eq m (max x y)) (cases_lt x y)
  where
    go : (l ≡ max x y) ⊎ (l ≡ max x y → ⊥) → (m ≡ max x y) ⊎ (m ≡ max x y → ⊥) → (x < y) ⊎ (y ≤ x) → (l ≡ m) ⊎ (((l ≡ x) × (m ≡ y)) ⊎ ((l ≡ y) × (m ≡ x)))
    go (inl p) (inl q) w = inl (p ∙ sym q)
    go (inr p) (inr q) w = inl (sym (merged_miss x y l p) ∙ e ∙ merged_miss x y m q)
    go (inl p) (inr q) (inl w) = let z : min x y ≡ m = sym (merged_hit x y l p) ∙ e ∙ merged_miss x y m q in inr (inr (omega arith, omega arith))
    go (inl p) (inr q) (inr w) = let z : min x y ≡ m = sym (merged_hit x y l p) ∙ e ∙ merged_miss x y m q in inr (inl (omega arith, omega arith))
    go (inr p) (inl q) (inl w) = let z : l ≡ min x y = sym (merged_miss x y l p) ∙ e ∙ merged_hit x y m q in inr (inl (omega arith, omega arith))
    go (inr p) (inl q) (inr w) = let z : l ≡ min x y = sym (merged_miss x y l p) ∙ e ∙ merged_hit x y m q in inr (inr (omega arith, omega arith))

merged_lower : (x y : ℕ) → merged x y (min x y) ≡ min x y
merged_lower x y =
    ⊎_elim (λ (q : min x y ≡ max x y). merged_hit x y (min x y) q) (λ (n : min x y ≡ max x y → ⊥). merged_miss x y (min x y) n) (cases_eq (min x y) (max x y))

module _ (k : Matrix) (a u : List Bool) where
  -- chains lead back, on, and along active columns
  flipped : (x y : ℕ) → Linked k a u x y → Linked k a u y x
  flipped x y w = record {
    row = w.row;
    unused = w.unused;
    holds_x = w.holds_y;
    holds_y = w.holds_x;
    active_x = w.active_y;
    active_y = w.active_x;
    two = λ e. w.two (sym e);
    no_third = λ z h i. ⊎_elim (λ (e : z ≡ x). inr e) (λ (e : z ≡ y). inl e) (w.no_third z h i);
  }

  through : (x y z : ℕ) → Joined k a u x y → Joined k a u y z → Joined k a u x z
  through x y z (same p) j = j
  through x y z (link p q r w i) j = link p q z w (through q r z i j)

  pub still_active : (x y : ℕ) → Joined k a u x y → has a x ≡ true → has a y ≡ true
  still_active x y (same p) h = h
  still_active x y (link p q r w i) h = still_active q r i w.active_y

  -- the labels that pairs give, all of them edges
  abbrev Links : List (ℕ × ℕ) → Type 0
  Links es = AllByRecursion (λ e. Linked k a u e.0 e.1) es

  more : (e : ℕ × ℕ) (es : List (ℕ × ℕ)) → Linked k a u e.0 e.1 → (c : ℕ)
      → label (labels (length a) (e ∷ es)) c ≡ joined (label (labels (length a) es)) e.0 e.1 c
  more e es w c = label_more (length a) es e.0 e.1 (has_below a e.0 w.active_x) (has_below a e.1 w.active_y) c

  -- columns of one label are joined
  pub labels_joined : (es : List (ℕ × ℕ)) → Links es → (c d : ℕ) → label (labels (length a) es) c ≡ label (labels (length a) es) d → Joined k a u c d
  labels_joined [] h c d e = subst (Joined k a u c) (sym (label_start (length a) c) ∙ e ∙ label_start (length a) d) (same c)
  labels_joined (p ∷ es) h c d e = go (merged_same (g p.0) (g p.1) (g c) (g d) (sym (more p es h.0 c) ∙ e ∙ more p es h.0 d)) (labels_joined es h.1)
    where
      g : ℕ → ℕ
      g = label (labels (length a) es)

      go : (g c ≡ g d) ⊎ (((g c ≡ g p.0) × (g d ≡ g p.1)) ⊎ ((g c ≡ g p.1) × (g d ≡ g p.0))) → ((c d : ℕ) → g c ≡ g d → Joined k a u c d) → Joined k a u c d
      go (inl q) ih = ih c d q
      go (inr (inl q)) ih = through c p.0 d (ih c p.0 q.0) (link p.0 p.1 d h.0 (ih p.1 d (sym q.1)))
      go (inr (inr q)) ih = through c p.1 d (ih c p.1 q.0) (link p.1 p.0 d (flipped p.0 p.1 h.0) (ih p.0 d (sym q.1)))

  -- the columns of a pair have one label
  pub pair_labels : (es : List (ℕ × ℕ)) → Links es → AllByRecursion (λ e. label (labels (length a) es) e.0 ≡ label (labels (length a) es) e.1) es
  pair_labels [] h = tt
  pair_labels (p ∷ es) h = (
    more p es h.0 p.0 ∙ merged_both (g p.0) (g p.1) ∙ sym (more p es h.0 p.1),
    All-weaker (λ e. g e.0 ≡ g e.1) (λ e. new e.0 ≡ new e.1) (λ e q. more p es h.0 e.0 ∙ ap (merged (g p.0) (g p.1)) q ∙ sym (more p es h.0 e.1)) es (pair_labels es h.1),
  )
    where
      g : ℕ → ℕ
      g = label (labels (length a) es)

      new : ℕ → ℕ
      new = label (labels (length a) (p ∷ es))

  -- a label is its own
  pub label_own : (es : List (ℕ × ℕ)) → Links es → (c : ℕ) → label (labels (length a) es) (label (labels (length a) es) c) ≡ label (labels (length a) es) c
  label_own [] h c = label_start (length a) (label (labels (length a) []) c)
  label_own (p ∷ es) h c =
      ap new (more p es h.0 c) ∙ more p es h.0 (merged x y (g c)) ∙ go (cases_eq (g c) (max x y)) (label_own es h.1) ∙ sym (more p es h.0 c)
    where
      g : ℕ → ℕ
      g = label (labels (length a) es)

      new : ℕ → ℕ
      new = label (labels (length a) (p ∷ es))

      x : ℕ
      x = g p.0

      y : ℕ
      y = g p.1

      go : (g c ≡ max x y) ⊎ (g c ≡ max x y → ⊥) → ((c : ℕ) → g (g c) ≡ g c) → merged x y (g (merged x y (g c))) ≡ merged x y (g c)
      go (inr n) ih = ap (λ z. merged x y (g z)) (merged_miss x y (g c) n) ∙ ap (merged x y) (ih c)
      go (inl q) ih =
          let lower : g (min x y) ≡ min x y = for_min (λ z. g z ≡ z) x y (ih p.0) (ih p.1) in
          ap (λ z. merged x y (g z)) (merged_hit x y (g c) q) ∙ ap (merged x y) lower ∙ merged_lower x y ∙ sym (merged_hit x y (g c) q)

  -- joined columns have one label, where every edge is a pair
  pub joined_labels : (f : ℕ → ℕ) → ((x y : ℕ) → Linked k a u x y → f x ≡ f y) → (x y : ℕ) → Joined k a u x y → f x ≡ f y
  joined_labels f all x y (same p) = refl
  joined_labels f all x y (link p q r w i) = all p q w ∙ joined_labels f all q r i

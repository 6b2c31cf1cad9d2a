-- The heaviest active column, and that what the policies name is active.
use Rattle.std.proofs.Common.{◌≡◌, ℕ, zero, suc, ◌<◌, ◌≤◌, Bool, true, false, cond, ltb, ◌⊎◌, List, [], ◌∷◌, length, Some, None, Option, refl, ap, ◌∙◌, subst, inl, inr, ⊎_elim, arith}
use Rattle.std.proofs.lemmas.List.{get_or_past}
use Rattle.std.proofs.lemmas.Bool.{cases_lt, cases_eq, both_ways, ltb-true, ltb-false}
use Rattle.codes.specs.Matrix.{Matrix, height}
use Rattle.method.specs.Sets.{has, lowest}
use Rattle.method.specs.Method.{Choice}
use Rattle.method.specs.Choices.{Names, Naming, first, better, top_to, top, column_weight, joins, label, labels, size_of, largest_of, or_below, component, or_asked, replay_at, replay}
use Rattle.method.specs.Theorems.{PoliciesName}
use Rattle.method.proofs.Marks.{lowest_some, lowest_none}

-- b is the heaviest active column below n, and no lower one is as heavy
pub record Best (w : ℕ → ℕ) (a : List Bool) (n b : ℕ) : Type 0 where
  pub low : b < n
  pub active : has a b ≡ true
  pub most : (d : ℕ) → d < n → has a d ≡ true → w d ≤ w b
  pub tie : (d : ℕ) → d < b → has a d ≡ true → w d < w b

abbrev pub Found : (ℕ → ℕ) → List Bool → ℕ → Option ℕ → Type 0
Found w a n None = (d : ℕ) → d < n → has a d ≡ false
Found w a n (Some b) = Best w a n b

last_or : (n d : ℕ) → d < suc n → (d < n) ⊎ (d ≡ n)
last_or n d l = ⊎_elim (λ (e : d ≡ n). inr e) (λ (e : d ≡ n → ⊥). inl (omega arith)) (cases_eq d n)

module _ (w : ℕ → ℕ) (a : List Bool) (n : ℕ) where
  found_idle : (o : Option ℕ) → has a n ≡ false → Found w a n o → Found w a (suc n) o
  found_idle None e h = λ d l. ⊎_elim (λ (q : d < n). h d q) (λ (q : d ≡ n). ap (has a) q ∙ e) (last_or n d l)
  found_idle (Some b) e h = record {
    low = omega (arith, h.low);
    active = h.active;
    tie = h.tie;
    most = λ d l s. ⊎_elim (λ (q : d < n). h.most d q s) (λ (q : d ≡ n). absurd (both_ways (has a d) (ap (has a) q ∙ e) s)) (last_or n d l);
  }

  found_better : (o : Option ℕ) → has a n ≡ true → Found w a n o → Found w a (suc n) (better w n true o)
  found_better None e h = record {
    low = omega arith;
    active = e;
    most = λ d l s. ⊎_elim (λ (q : d < n). absurd (both_ways (has a d) (h d q) s)) (λ (q : d ≡ n). let z : w d ≡ w n = ap w q in omega arith) (last_or n d l);
    tie = λ d l s. absurd (both_ways (has a d) (h d l) s);
  }
  found_better (Some b) e h = go (ltb (w b) (w n)) refl
    where
      go : (t : Bool) → ltb (w b) (w n) ≡ t → Found w a (suc n) (cond t (Some n) (Some b))
      go true q =
          let lt = ltb-true (w b) (w n) q in
          record {
            low = omega arith;
            active = e;
            most = λ d l s. ⊎_elim (λ (p : d < n). omega (arith, h.most d p s)) (λ (p : d ≡ n). let z : w d ≡ w n = ap w p in omega arith) (last_or n d l);
            tie = λ d p s. omega (arith, h.most d p s);
          }
      go false q =
          let ge = ltb-false (w b) (w n) q in
          record {
            low = omega (arith, h.low);
            active = h.active;
            tie = h.tie;
            most = λ d l s. ⊎_elim (λ (p : d < n). h.most d p s) (λ (p : d ≡ n). let z : w d ≡ w n = ap w p in omega arith) (last_or n d l);
          }

pub top_found : (w : ℕ → ℕ) (a : List Bool) (n : ℕ) → Found w a n (top_to w a n)
top_found w a zero = λ d l. absurd (omega arith)
top_found w a (suc n) = go (has a n) refl (top_found w a n)
  where
    go : (b : Bool) → has a n ≡ b → Found w a n (top_to w a n) → Found w a (suc n) (better w n b (top_to w a n))
    go true e h = found_better w a n (top_to w a n) e h
    go false e h = found_idle w a n (top_to w a n) e h

pub top_best : (w : ℕ → ℕ) (a : List Bool) (c : ℕ) → top w a ≡ Some c → Best w a (length a) c
top_best w a c e = subst (Found w a (length a)) e (top_found w a (length a))

-- what is named is active, and none is named only where nothing is
pub first_names : (a : List Bool) → Names a (first a)
first_names a = go (first a) refl
  where
    go : (o : Option ℕ) → lowest (λ b. b) a ≡ o → Names a o
    go None e = lowest_none (λ b. b) false refl a e
    go (Some c) e = (lowest_some (λ b. b) false a c e).0

pub top_names : (w : ℕ → ℕ) (a : List Bool) → Names a (top w a)
top_names w a = go (top w a) (top_found w a (length a))
  where
    go : (o : Option ℕ) → Found w a (length a) o → Names a o
    go None h = λ c. ⊎_elim (λ (l : c < length a). h c l) (λ (l : length a ≤ c). get_or_past a c false l) (cases_lt c (length a))
    go (Some c) h = h.active

pub largest_names : {P : Type 0} (a : List Bool) (es : List (ℕ × ℕ)) (p : P) (o : Option ℕ × P) → Names a o.0 → Names a (or_below (largest_of a es) p o).0
largest_names a [] p o h = h
largest_names {P} a (e ∷ es) p o h = go (top w a) (top_names w a)
  where
    w : ℕ → ℕ
    w = size_of a (label (labels (length a) (e ∷ es)))

    go : (t : Option ℕ) → Names a t → Names a (or_below t p o).0
    go None i = h
    go (Some c) i = i

pub component_names : {P : Type 0} (k : Matrix) (below : Choice P) → Naming below → Naming (component k below)
component_names k below ok p a u = largest_names a (joins k a u (height k)) p (below p a u) (ok p a u)

pub replay_names : {P : Type 0} (below : Choice P) → Naming below → Naming (replay below)
replay_names {P} below ok s a u = go s.0
  where
    go : (cs : List ℕ) → Names a (replay_at below cs s.1 a u).0
    go [] = ok s.1 a u
    go (c ∷ cs) = asked (has a c) refl
      where
        asked : (b : Bool) → has a c ≡ b → Names a (or_asked b c cs s.1 (below s.1 a u)).0
        asked true e = e
        asked false e = ok s.1 a u

pub policies_name : (P : Type 0) → PoliciesName P
policies_name P = record {
  by_first = λ p a u. first_names a;
  by_heaviest = λ k p a u. top_names (column_weight k u) a;
  by_component = component_names;
  by_replay = replay_names;
}

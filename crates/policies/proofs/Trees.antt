-- Forests: a column pointed further up, and two roots joined.
use Rattle.std.proofs.Common.{◌≡◌, ℕ, ◌<◌, ◌≤◌, min, max, cond, eqb, ◌≢◌, ◌⊎◌, List, set, sym, ap, ◌∙◌, subst, inl, inr, ⊎_elim, arith, length-set, get_or-set_other, get_or-set_same}
use Rattle.std.proofs.lemmas.Bool.{cases_lt, cases_eq, eq-eqb, ne_eqb}
use Rattle.method.specs.Choices.{merged}
use Rattle.policies.specs.Numbers.{at}
use Rattle.policies.specs.Forests.{Falling, Labelled, joined, Kept, Root}

-- what holds of two numbers holds of the lower and of the higher
pub for_min : (P : ℕ → Type 0) (p q : ℕ) → P p → P q → P (min p q)
for_min P p q hp hq =
    ⊎_elim (λ (l : p < q). let e : p ≡ min p q = omega arith in subst P e hp) (λ (l : q ≤ p). let e : q ≡ min p q = omega arith in subst P e hq) (cases_lt p q)

pub for_max : (P : ℕ → Type 0) (p q : ℕ) → P p → P q → P (max p q)
for_max P p q hp hq =
    ⊎_elim (λ (l : p < q). let e : q ≡ max p q = omega arith in subst P e hq) (λ (l : q ≤ p). let e : p ≡ max p q = omega arith in subst P e hp) (cases_lt p q)

-- a label that becomes another, and one that stays
pub turned : (hi lo l : ℕ) → l ≡ hi → cond (eqb l hi) lo l ≡ lo
turned hi lo l e = ap (λ b. cond b lo l) (eq-eqb l hi e)

pub unturned : (hi lo l : ℕ) → l ≢ hi → cond (eqb l hi) lo l ≡ l
unturned hi lo l n = ap (λ b. cond b lo l) (ne_eqb l hi n)

-- column c pointed at one that is not above it
module _ (up : List ℕ) (c r : ℕ) (low : r ≤ c) (inside : c < 512) (w : Falling up) where
  pub at_pointed : at (set up c r) c ≡ r
  at_pointed = get_or-set_same up c r 0 (omega (arith, w.long))

  pub at_others : (d : ℕ) → d ≢ c → at (set up c r) d ≡ at up d
  at_others d n = get_or-set_other up c d r 0 n

  pub pointed_falls : Falling (set up c r)
  pointed_falls = record { long = length-set up c r ∙ w.long; falls = λ d l. go d l (cases_eq d c) }
    where
      go : (d : ℕ) → d < 512 → (d ≡ c) ⊎ (d ≡ c → ⊥) → at (set up c r) d ≤ d
      go d l (inl e) = rw e (rw at_pointed low)
      go d l (inr n) = rw (at_others d n) (w.falls d l)

-- one root pointed at another: the higher label becomes the lower
module _ (up : List ℕ) (hi lo : ℕ) (low : lo ≤ hi) (inside : hi < 512) (f : ℕ → ℕ) (ok : Labelled up f) (own_hi : at up hi ≡ hi) (own_lo : at up lo ≡ lo) where
  abbrev g : ℕ → ℕ
  g c = cond (eqb (f c) hi) lo (f c)

  f_lo : f lo ≡ lo
  f_lo = ok.root lo (omega arith) own_lo

  g_hi : g hi ≡ lo
  g_hi = turned hi lo (f hi) (ok.root hi inside own_hi)

  g_lo : g lo ≡ lo
  g_lo = ⊎_elim (λ (e : lo ≡ hi). turned hi lo (f lo) (f_lo ∙ e)) (λ (n : lo ≡ hi → ⊥). unturned hi lo (f lo) (λ e. n (sym f_lo ∙ e)) ∙ f_lo) (cases_eq lo hi)

  keep : (c : ℕ) → c < 512 → (c ≡ hi) ⊎ (c ≡ hi → ⊥) → g (at (set up hi lo) c) ≡ g c
  keep c l (inl e) = ap (λ d. g (at (set up hi lo) d)) e ∙ ap g (at_pointed up hi lo low inside ok.falling) ∙ g_lo ∙ sym g_hi ∙ ap g (sym e)
  keep c l (inr n) = ap g (at_others up hi lo low inside ok.falling c n) ∙ ap (λ x. cond (eqb x hi) lo x) (ok.keeps c l)

  own : (c : ℕ) → c < 512 → at (set up hi lo) c ≡ c → (c ≡ hi) ⊎ (c ≡ hi → ⊥) → g c ≡ c
  own c l e (inl q) = ap g q ∙ g_hi ∙ sym (at_pointed up hi lo low inside ok.falling) ∙ ap (at (set up hi lo)) (sym q) ∙ e
  own c l e (inr n) =
      let same : f c ≡ c = ok.root c l (sym (at_others up hi lo low inside ok.falling c n) ∙ e) in
      unturned hi lo (f c) (λ q. n (sym same ∙ q)) ∙ same

  pub grafted : Labelled (set up hi lo) (λ c. cond (eqb (f c) hi) lo (f c))
  grafted = record {
    falling = pointed_falls up hi lo low inside ok.falling;
    keeps = λ c l. keep c l (cases_eq c hi);
    root = λ c l e. own c l e (cases_eq c hi);
  }

-- a column that is no root, pointed at what stands two steps above it
module _ (up : List ℕ) (c : ℕ) (inside : c < 512) (ok : Falling up) (not_root : at up c ≢ c) where
  abbrev r : ℕ
  r = at up (at up c)

  pub above_low : at up (at up c) < c
  above_low = omega (arith, not_root, ok.falls c inside, ok.falls (at up c) (omega (arith, ok.falls c inside)))

  low : r ≤ c
  low = omega (arith, above_low)

  module _ (f : ℕ → ℕ) (w : Labelled up f) where
    keep_above : (d : ℕ) → d < 512 → (d ≡ c) ⊎ (d ≡ c → ⊥) → f (at (set up c r) d) ≡ f d
    keep_above d l (inl e) =
        ap (λ d. f (at (set up c r) d)) e ∙ ap f (at_pointed up c r low inside ok) ∙ w.keeps (at up c) (omega (arith, ok.falls c inside)) ∙ w.keeps c inside ∙ ap f (sym e)
    keep_above d l (inr n) = ap f (at_others up c r low inside ok d n) ∙ w.keeps d l

    own_above : (d : ℕ) → d < 512 → at (set up c r) d ≡ d → (d ≡ c) ⊎ (d ≡ c → ⊥) → f d ≡ d
    own_above d l e (inl q) = absurd (omega (arith, above_low, at_pointed up c r low inside ok, ap (at (set up c r)) q, e))
    own_above d l e (inr n) = w.root d l (sym (at_others up c r low inside ok d n) ∙ e)

  pub lifted_keeps : Kept up (set up c (at up (at up c)))
  lifted_keeps = record {
    falling = pointed_falls up c r low inside ok;
    stay = λ d e. at_others up c r low inside ok d (λ q. not_root (ap (at up) (sym q) ∙ e ∙ q)) ∙ e;
    still = λ f w. record {
      falling = pointed_falls up c r low inside ok;
      keeps = λ d l. keep_above f w d l (cases_eq d c);
      root = λ d l e. own_above f w d l e (cases_eq d c);
    };
  }

pub kept_more : (x y z : List ℕ) → Kept x y → Kept y z → Kept x z
kept_more x y z p q = record { falling = q.falling; stay = λ c e. q.stay c (p.stay c e); still = λ f w. q.still f (p.still f w) }

pub kept_same : (x : List ℕ) → Falling x → Kept x x
kept_same x h = record { falling = h; stay = λ c e. e; still = λ f w. w }

-- the root of a set is its label
root_label : (before up : List ℕ) (c r : ℕ) (f : ℕ → ℕ) → c < 512 → Root before up c r → Labelled before f → r ≡ f c
root_label before up c r f l h w = sym ((h.kept.still f w).root r (omega (arith, h.low)) h.own) ∙ h.same f w

-- the sets of x and y joined, by their roots
pub roots_joined : (before mid up : List ℕ) (x y p q : ℕ) → x < 512 → y < 512 → Root before mid x p → Root mid up y q
    → (f : ℕ → ℕ) → Labelled before f → Labelled (set up (max p q) (min p q)) (joined f x y)
roots_joined before mid up x y p q lx ly rp rq f ok =
    let own_p : at up p ≡ p = rq.kept.stay p rp.own in
    let t : List ℕ = set up (max p q) (min p q) in
    let inside : max p q < 512 = omega (arith, rp.low, rq.low) in
    subst (λ (l : ℕ). Labelled t (λ c. merged l (f y) (f c))) (root_label before mid x p f lx rp ok)
    (subst (λ (l : ℕ). Labelled t (λ c. merged p l (f c))) (root_label mid up y q f ly rq (rp.kept.still f ok))
    (grafted up (max p q) (min p q) (omega arith) inside f (rq.kept.still f (rp.kept.still f ok))
    (for_max (λ c. at up c ≡ c) p q own_p rq.own) (for_min (λ c. at up c ≡ c) p q own_p rq.own)))

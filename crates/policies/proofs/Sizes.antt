-- The active columns of each label, counted column by column as the forest is flattened.
use Rattle.std.proofs.Common.{◌≡◌, ℕ, ◌+◌, ◌<◌, ◌≤◌, Bool, true, false, ◌&&◌, eqb, ◌⊎◌, List, [], ◌∷◌, length, set, replicate, sym, refl, ap, ◌∙◌, inl, inr, ⊎_elim, arith, length-set}
use Rattle.std.proofs.lemmas.List.{length-replicate}
use Rattle.std.proofs.lemmas.Bool.{cases_lt, cases_eq}
use Rattle.method.specs.Sets.{has, bump}
use Rattle.method.specs.Choices.{count_to, top, label, labels, in_set, size_of, largest_of}
use Rattle.method.proofs.Counts.{num}
use Rattle.policies.specs.Numbers.{at}
use Rattle.policies.specs.Forests.{Falling, Labelled}
use Rattle.policies.specs.Drawings.{some_of}
use Rattle.policies.proofs.Marks.{get_or_zeros}
use Rattle.policies.proofs.Tops.{top_same}
use Rattle.policies.proofs.Trees.{at_pointed, at_others, pointed_falls}
use Rattle.policies.proofs.Weights.{bump_num, num_most, at_raised, count_more}

-- the columns below c point at their labels and are counted; those from c on are as before
pub record Sized (a : List Bool) (before up sizes : List ℕ) (c : ℕ) : Type 0 where
  pub falling : Falling up
  pub long : length sizes ≡ 512
  pub few : (l : ℕ) → at sizes l ≤ c
  pub ahead : (d : ℕ) → c ≤ d → at up d ≡ at before d
  pub done : (f : ℕ → ℕ) → Labelled before f → (d : ℕ) → d < c → at up d ≡ f d
  pub counts : (f : ℕ → ℕ) → Labelled before f → (l : ℕ) → l < 512 → at sizes l ≡ count_to (in_set a f l) c

-- one column more
module _ (a : List Bool) (before up s : List ℕ) (c r : ℕ) (inside : c < 512) (h : Sized a before up s c) (is : r ≡ at up (at up c)) where
  pub step_low : at up c ≤ c
  step_low = h.falling.falls c inside

  pub root_low : r ≤ c
  root_low = omega (arith, is, step_low, h.falling.falls (at up c) (omega (arith, step_low)))

  root_is : (f : ℕ → ℕ) → Labelled before f → r ≡ f c
  root_is f w =
      let same : at up c ≡ at before c = h.ahead c (omega arith) in
      is ∙ ⊎_elim (λ (l : at up c < c). h.done f w (at up c) l ∙ ap f same ∙ w.keeps c inside)
      (λ (l : c ≤ at up c).
      let own : at up c ≡ c = omega (arith, step_low) in
      ap (at up) own ∙ own ∙ sym (w.root c inside (sym same ∙ own)))
      (cases_lt (at up c) c)

  module _ (next : List ℕ) (b : Bool) (active : b ≡ has a c) (long : length next ≡ 512) (new : (l : ℕ) → at next l ≡ bump (b && eqb r l) (at s l)) where
    pub sized_step : Sized a before (set up c r) next (c + 1)
    sized_step = record {
      falling = pointed_falls up c r root_low inside h.falling;
      long = long;
      few = λ l. omega (arith, new l, bump_num (b && eqb r l) (at s l), num_most (b && eqb r l), h.few l);
      ahead = λ d l. at_others up c r root_low inside h.falling d (omega arith) ∙ h.ahead d (omega arith);
      done = λ f w d l. go f w d l (cases_eq d c);
      counts = λ f w l q.
          new l ∙ ap (λ x. bump (b && eqb x l) (at s l)) (root_is f w) ∙ ap (λ t. bump (t && eqb (f c) l) (at s l)) active ∙ ap (bump (in_set a f l c)) (h.counts f w l q)
          ∙ count_more (in_set a f l) c;
    }
      where
        go : (f : ℕ → ℕ) → Labelled before f → (d : ℕ) → d < c + 1 → (d ≡ c) ⊎ (d ≡ c → ⊥) → at (set up c r) d ≡ f d
        go f w d l (inl e) = ap (at (set up c r)) e ∙ at_pointed up c r root_low inside h.falling ∙ root_is f w ∙ ap f (sym e)
        go f w d l (inr n) = at_others up c r root_low inside h.falling d n ∙ h.done f w d (omega arith)

  pub sized_idle : false ≡ has a c → Sized a before (set up c r) s (c + 1)
  sized_idle e = sized_step s false e h.long (λ l. refl)

  pub sized_hit : true ≡ has a c → Sized a before (set up c r) (set s r (at s r + 1)) (c + 1)
  sized_hit e = sized_step (set s r (at s r + 1)) true e (length-set s r (at s r + 1) ∙ h.long) (λ l. at_raised s r l (omega (arith, h.long, root_low)))

pub sized_start : (n : ℕ) (a : List Bool) (up : List ℕ) → n ≡ 512 → Falling up → Sized a up up (replicate n 0) 0
sized_start n a up e w = record {
  falling = w;
  long = length-replicate {A = ℕ} n 0 ∙ e;
  few = λ l. omega (arith, get_or_zeros n l);
  ahead = λ d l. refl;
  done = λ f h d l. absurd (omega arith);
  counts = λ f h l q. get_or_zeros n l;
}

-- the largest set, by its size
pub largest_is : (a : List Bool) (es : List (ℕ × ℕ)) (w : ℕ → ℕ) → true ≡ some_of es
    → ((l : ℕ) → l < length a → w l ≡ size_of a (label (labels (length a) es)) l) → top w a ≡ largest_of a es
largest_is a [] w s h = let z : ◌≡◌ {A = ℕ} 1 0 = ap num s in absurd (omega arith)
largest_is a (e ∷ es) w s h = top_same w (size_of a (label (labels (length a) (e ∷ es)))) a (length a) h

-- The heaviest of the active columns, by a fold over the numbers below the width.
use Rattle.std.proofs.Common.{◌≡◌, ℕ, ◌<◌, ◌≤◌, Bool, List, [], ◌∷◌, length, Some, None, Option, sym, refl, ap, ◌∙◌, subst, arith}
use denote.Param.Members.{Mut}
use Rattle.std.specs.declared.ops.Range.{Range}
use Rattle.std.specs.Fn.{Called, Takes}
use Rattle.std.specs.Iterator.{Yields, FoldTurn, CallableInFold, FoldsItems}
use Rattle.std.specs.List.{FoldsTo}
use Rattle.std.proofs.iter.Yields.{nat_range_steps}
use Rattle.method.specs.Sets.{has}
use Rattle.method.specs.Choices.{better, top_to, top}
use Rattle.method.proofs.Tops.{Found, top_found}
use Rattle.policies.proofs.Tops.{top_more}

module _ {F : Type 0} (g : Mut F (Option ℕ × (ℕ × Unit {0})) (Option ℕ)) (f : F) (w : ℕ → ℕ) (a : List Bool)
    (chosen : (o : Option ℕ) (c : ℕ) (r : Option ℕ) (q : F) → Called g f (o, (c, tt)) r q → (q ≡ f) × (r ≡ better w c (has a c) o)) where
  -- what is chosen so far is the choice among the numbers that were looked at
  record So_far (s : Range ℕ) (p : F × Option ℕ) : Type 0 where
    pub same : p.0 ≡ f
    pub end : s.end ≡ length a
    pub low : s.start ≤ length a
    pub is : p.1 ≡ top_to w a s.start

  begun : (s : Range ℕ) → s ≡ record { start = 0; end = length a } → So_far s (f, None)
  begun s e = record { same = refl; end = ap (λ r. r.end) e; low = omega (arith, ap (λ r. r.start) e); is = ap (λ r. top_to w a r.start) (sym e) }

  -- one number further on
  more : (s t : Range ℕ) (p q : F × Option ℕ) (x : ℕ) → So_far s p → nat_range_steps s (Some x) t → FoldTurn g p x q → So_far t q
  more s t p q x i y c =
      let k = chosen p.1 x q.1 q.0 (subst (λ e. Called g e (p.1, (x, tt)) q.1 q.0) i.same c) in
      record {
        same = k.0;
        end = y.0 ∙ i.end;
        low = omega (arith, y.1, i.end);
        is = k.1 ∙ ap (λ n. better w n (has a n) p.1) y.1.1 ∙ top_more w a s.start (has a s.start) p.1 refl i.is ∙ ap (top_to w a) (sym y.1.2);
      }

  along : (xs : List ℕ) (s t : Range ℕ) (p q : F × Option ℕ) → So_far s p → Yields nat_range_steps s xs t → FoldsTo (FoldTurn g) p xs q → So_far t q
  along [] s t p q i y c = subst (λ t. So_far t q) y (subst (So_far s) c i)
  along (x ∷ xs) s t p q i y c = along xs y.0 t c.0 q (more s y.0 p c.0 x i y.1 c.1) y.2 c.2

  -- a number below the width may be looked at, whatever was chosen before
  pub callable : (n : ℕ) → length a ≤ n → ((c : ℕ) → c < n → Takes g f (None, (c, tt))) → ((b c : ℕ) → b < n → c < n → Takes g f (Some b, (c, tt)))
      → (s : Range ℕ) → s ≡ record { start = 0; end = length a } → CallableInFold nat_range_steps g s f None
  callable n few first next s e = record {
    at = λ xs t q x u ys turns step.
        let i = along xs s t (f, None) q (begun s e) ys turns in
        let found = subst (Found w a t.start) (sym i.is) (top_found w a t.start) in
        subst (λ h. Takes g h (q.1, (x, tt))) (sym i.same) (go q.1 found x (omega (arith, i.end, step.1.0, step.1.1)) (omega (arith, i.low)));
  }
    where
      go : {m : ℕ} (o : Option ℕ) → Found w a m o → (x : ℕ) → x < n → m ≤ n → Takes g f (o, (x, tt))
      go None h x l k = first x l
      go (Some b) h x l k = next b x (omega (arith, h.low)) l

  pub folded : (s : Range ℕ) → s ≡ record { start = 0; end = length a } → (r : Option ℕ) → FoldsItems nat_range_steps g s f None r → r ≡ top w a
  folded s e r d =
      let end = d.2.1.0 in
      let i = along d.0 s end (f, None) (d.1, r) (begun s e) d.2.1.1 d.3 in
      let all : end.start ≡ length a = omega (arith, i.end, i.low, d.2.1.2.1.0) in
      i.is ∙ ap (top_to w a) all

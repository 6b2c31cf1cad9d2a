-- The heaviest active column below n.
use Rattle.std.proofs.Common.{◌≡◌, ℕ, zero, suc, ◌+◌, ◌<◌, Bool, true, false, cond, ltb, List, Some, None, Option, sym, refl, ap, ◌∙◌, add-one, arith}
use Rattle.method.specs.Sets.{has}
use Rattle.method.specs.Choices.{better, top_to}
use Rattle.method.proofs.Tops.{Found, top_found}

-- one column further on
pub top_more : (w : ℕ → ℕ) (a : List Bool) (n : ℕ) (b : Bool) (o : Option ℕ) → b ≡ has a n → o ≡ top_to w a n → better w n b o ≡ top_to w a (n + 1)
top_more w a n b o e f = ap (better w n b) f ∙ ap (λ t. better w n t (top_to w a n)) e ∙ sym (ap (top_to w a) (add-one n))

-- equal weights choose the same
pub top_same : (w v : ℕ → ℕ) (a : List Bool) (n : ℕ) → ((c : ℕ) → c < n → w c ≡ v c) → top_to w a n ≡ top_to v a n
top_same w v a zero e = refl
top_same w v a (suc n) e = ap (better w n (has a n)) (top_same w v a n (λ c l. e c (omega arith))) ∙ go (has a n) (top_to v a n) (top_found v a n)
  where
    go : (b : Bool) (o : Option ℕ) → Found v a n o → better w n b o ≡ better v n b o
    go false o h = refl
    go true None h = refl
    go true (Some b) h =
        ap (λ x. cond (ltb x (w n)) (Some n) (Some b)) (e b (omega (arith, h.low))) ∙ ap (λ x. cond (ltb (v b) x) (Some n) (Some b)) (e n (omega arith))

-- What the laws of a plain sum give of a list's total.
use Rattle.std.proofs.Common.{◌≡◌, ℕ, ◌≤◌, List, map, length, drop, sym, refl, ap, ◌∙◌, ap₂}
use mathlib.Core.Logic.{∥∥₁_elim, ∥∥₁_map}
use mathlib.Core.List.{Perm, Permᴰ}
use Rattle.std.proofs.lemmas.List.{drop_all}
use Rattle.symbols.specs.Kinds.{SumLaws}
use Rattle.symbols.specs.Sums.{total}

module _ {S : Type 0} {zero : S} {sum : S → S → S} (laws : SumLaws zero sum) where
  pub sum_zero : (x : S) → sum x zero ≡ x
  sum_zero x = laws.commutative x zero ∙ laws.identity x

  -- a list read to its end has nothing more to add
  pub total_all : {X : Type 0} (f : X → S) (xs : List X) (i : ℕ) (acc : S) → length xs ≤ i → sum acc (total zero sum (map f (drop i xs))) ≡ acc
  total_all f xs i acc h = ap (λ l. sum acc (total zero sum (map f l))) (drop_all i xs h) ∙ sum_zero acc

  swapped : (a b rest : S) → sum a (sum b rest) ≡ sum b (sum a rest)
  swapped a b rest = sym (laws.associative a b rest) ∙ ap (λ x. sum x rest) (laws.commutative a b) ∙ laws.associative b a rest

  total_permᴰ : {xs ys : List S} → Permᴰ xs ys → total zero sum xs ≡ total zero sum ys
  total_permᴰ Permᴰ.nil = refl
  total_permᴰ (Permᴰ.cons e d) = ap₂ sum e (total_permᴰ d)
  total_permᴰ (Permᴰ.swap {a = a} {b = b} {l = l} e e') = swapped a b (total zero sum l) ∙ ap₂ (λ x y. sum x (sum y (total zero sum l))) e' e
  total_permᴰ (Permᴰ.trans d d') = total_permᴰ d ∙ total_permᴰ d'

  -- the order does not matter
  pub total_perm : IsSet S → (xs ys : List S) → Perm xs ys → total zero sum xs ≡ total zero sum ys
  total_perm set xs ys p = ∥∥₁_elim p (set _ _) total_permᴰ

permᴰ_map : {X Y : Type 0} (f : X → Y) {xs ys : List X} → Permᴰ xs ys → Permᴰ (map f xs) (map f ys)
permᴰ_map f Permᴰ.nil = Permᴰ.nil
permᴰ_map f (Permᴰ.cons e d) = Permᴰ.cons (ap f e) (permᴰ_map f d)
permᴰ_map f (Permᴰ.swap e e') = Permᴰ.swap (ap f e) (ap f e')
permᴰ_map f (Permᴰ.trans d d') = Permᴰ.trans (permᴰ_map f d) (permᴰ_map f d')

-- equal lists up to order stay so under a function
pub perm_map : {X Y : Type 0} (f : X → Y) (xs ys : List X) → Perm xs ys → Perm (map f xs) (map f ys)
perm_map f xs ys p = ∥∥₁_map {B = Permᴰ (map f xs) (map f ys)} p (permᴰ_map f)

-- The pair of a list, read off the first items of an iterator that gives it.
use Rattle.std.proofs.Common.{◌≡◌, ℕ, Bool, true, false, not, cond, List, [], ◌∷◌, Some, None, Option, sym, ap, ◌∙◌, subst, refl}
use denote.Param.Members.{Mut}
use denote.Ref.{Bor}
use Rattle.std.specs.Bool.{then_some}
use Rattle.std.specs.Fn.{CalledAt}
use Rattle.std.specs.Iterator.{AlwaysYields, YieldsFirst}
use Rattle.std.specs.Iterator.Adapters.{filter_source, filter_callee, filter_steps}
use Rattle.std.specs.List.{filter}
use Rattle.std.specs.Option.{is_some}
use Rattle.std.proofs.lemmas.Bool.{false≢true}
use Rattle.std.proofs.lemmas.Iterator.{YieldsList}
use Rattle.std.proofs.lemmas.Iterator.Consumers.{YieldsList-at, YieldsList-from_first, YieldsList-from_filter}
use Rattle.codes.specs.declared.row.RowColumns.{RowColumns}
use Rattle.codes.specs.Matrix.{Matrix}
use Rattle.codes.specs.RowsRead.{columns_left}
use Rattle.method.specs.Sets.{has, kept_if, marked}
use Rattle.method.specs.Choices.{pair_of}

-- a filter by marks keeps the numbers that are marked
filter_marked : (a : List Bool) (row : List ℕ) → filter (has a) row ≡ marked a row
filter_marked a [] = refl
filter_marked a (c ∷ cs) = go (has a c) (filter_marked a cs)
  where
    go : (b : Bool) → filter (has a) cs ≡ marked a cs → cond b (c ∷ filter (has a) cs) (filter (has a) cs) ≡ kept_if b c (marked a cs)
    go true e = ap (λ xs. c ∷ xs) e
    go false e = e

pub row_marked : {C F : Type 0} (m : C → Matrix) {g : Mut F (Bor ℕ × Unit {0}) Bool} {it : RowColumns C} {s : _} {f : F} (a : List Bool) (row : List ℕ)
    → columns_left m it ≡ row → filter_source s ≡ it → filter_callee s ≡ f → ((x : ℕ) (b : Bool) (q : F) → CalledAt g f x b q → (q ≡ f) × (b ≡ has a x))
    → YieldsList (filter_steps (YieldsFirst (columns_left m)) g) (λ x. x) s (marked a row)
row_marked {C} {F} m {g} {it} {s} a row left source callee test =
    subst (YieldsList (filter_steps (YieldsFirst (columns_left m)) g) (λ x. x) s) (filter_marked a row)
    (YieldsList-from_filter g (has a) (YieldsList-at source (YieldsList-from_first (λ x. x) (columns_left m) row left)) callee test)

module _ {S : Type 0} (steps : S → Option ℕ → S → Type 0) where
  ended : (xs : List ℕ) (s t : S) → AlwaysYields steps (λ x. x) s xs → steps s None t → xs ≡ []
  ended [] s t a n = refl
  ended (x ∷ xs) s t a n = absurd (a.0 t n)

  went : (xs : List ℕ) (s t : S) (x : ℕ) → AlwaysYields steps (λ x. x) s xs → steps s (Some x) t → (ys : List ℕ) × (xs ≡ x ∷ ys) × AlwaysYields steps (λ x. x) t ys
  went [] s t x a p = absurd (a x t p)
  went (y ∷ ys) s t x a p = let k = a.1 x t p in (ys, ap (λ z. z ∷ ys) (sym k.0), k.1)

  module _ (xs : List ℕ) (s t : S) where
    -- there is no first item, or no second
    pub pair_of_none : steps s None t → YieldsList steps (λ x. x) s xs → pair_of xs ≡ None
    pair_of_none n all = ap pair_of (ended xs s t all.runs n)

    module _ (x : ℕ) (first : steps s (Some x) t) (u : S) where
      pub pair_of_one : steps t None u → YieldsList steps (λ x. x) s xs → pair_of xs ≡ None
      pair_of_one n all =
          let k = went xs s t x all.runs first in
          ap pair_of (k.1 ∙ ap (λ ys. x ∷ ys) (ended k.0 t u k.2 n))

      -- two items, and a third or none
      pub pair_of_two : (y : ℕ) (v : S) → steps t (Some y) u → (r : Option ℕ) → steps u r v → (b : Bool) → is_some r ≡ not b → YieldsList steps (λ x. x) s xs → pair_of xs ≡ then_some b (x, y)
      pair_of_two y v second r third b e all =
          let k = went xs s t x all.runs first in
          let l = went k.0 t u y k.2 second in
          ap pair_of (k.1 ∙ ap (λ ys. x ∷ ys) l.1) ∙ go r third b e l.0 l.2
        where
          go : (r : Option ℕ) → steps u r v → (b : Bool) → is_some r ≡ not b → (zs : List ℕ) → AlwaysYields steps (λ x. x) u zs → pair_of (x ∷ (y ∷ zs)) ≡ then_some b (x, y)
          go None n true e zs a = ap (λ ws. pair_of (x ∷ (y ∷ ws))) (ended zs u v a n)
          go None n false e zs a = absurd (false≢true e)
          go (Some z) p true e zs a = absurd (false≢true (sym e))
          go (Some z) p false e zs a = ap (λ ws. pair_of (x ∷ (y ∷ ws))) (went zs u v z a p).1

-- The lowest place that passes a test, and whether one does, by a chain over the items.
use Rattle.std.proofs.Common.{◌≡◌, ℕ, zero, suc, ◌<◌, Bool, true, false, ◌||◌, List, [], ◌∷◌, length, get_or, is_some, Some, None, Option, sym, refl, ap, ◌∙◌, arith}
use Rattle.std.specs.List.{list_any}
use Rattle.method.specs.Sets.{lowest, here_or, later}

some_here : (b : Bool) (o : Option ℕ) → is_some (here_or b o) ≡ (b || is_some o)
some_here true o = refl
some_here false (Some n) = refl
some_here false None = refl

pub any_lowest : {A : Type 0} (p : A → Bool) (xs : List A) → list_any p xs ≡ is_some (lowest p xs)
any_lowest p [] = refl
any_lowest p (x ∷ xs) = ap (λ b. p x || b) (any_lowest p xs) ∙ sym (some_here (p x) (lowest p xs))

-- two tests that answer alike place by place
pub any_like : {A B : Type 0} (p : A → Bool) (q : B → Bool) (d : A) (e : B) (xs : List A) (ys : List B) → length xs ≡ length ys → ((k : ℕ) → k < length ys → p (get_or xs k d) ≡ q (get_or ys k e)) → list_any p xs ≡ list_any q ys
any_like p q d e [] [] l h = refl
any_like p q d e [] (y ∷ ys) l h = absurd (omega (arith, l))
any_like p q d e (x ∷ xs) [] l h = absurd (omega (arith, l))
any_like p q d e (x ∷ xs) (y ∷ ys) l h = ap (λ b. b || list_any p xs) (h 0 (omega arith)) ∙ ap (λ b. q y || b) (any_like p q d e xs ys (omega (arith, l)) (λ k m. h (suc k) (omega (arith, m))))

-- the lowest place that passes is the one before which none does
module _ {A : Type 0} (p : A → Bool) (d : A) where
  pub lowest_found : (xs : List A) (r : ℕ) → r < length xs → ((k : ℕ) → k < r → p (get_or xs k d) ≡ false) → p (get_or xs r d) ≡ true → lowest p xs ≡ Some r
  lowest_found [] r l h e = absurd (omega arith)
  lowest_found (x ∷ xs) zero l h e = ap (λ b. here_or b (lowest p xs)) e
  lowest_found (x ∷ xs) (suc r) l h e =
      ap (λ b. here_or b (lowest p xs)) (h 0 (omega arith)) ∙ ap later (lowest_found xs r (omega arith) (λ k q. h (suc k) (omega arith)) e)

  pub lowest_missed : (xs : List A) → ((k : ℕ) → k < length xs → p (get_or xs k d) ≡ false) → lowest p xs ≡ None
  lowest_missed [] h = refl
  lowest_missed (x ∷ xs) h = ap (λ b. here_or b (lowest p xs)) (h 0 (omega arith)) ∙ ap later (lowest_missed xs (λ k q. h (suc k) (omega arith)))

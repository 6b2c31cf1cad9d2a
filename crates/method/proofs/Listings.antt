-- Lists of different elements, and that two lists of all that have a property are equally long.
use Rattle.std.proofs.Common.{◌≡◌, ℕ, suc, ◌+◌, ◌-◌, ◌<◌, ◌≤◌, ◌≢◌, ◌⊎◌, List, [], ◌∷◌, ◌++◌, map, length, get_or, sym, refl, ap, ◌∙◌, inl, inr, arith}
use Rattle.std.specs.List.{ContainsAt as Has, remove, AllByRecursion}
use Rattle.std.proofs.lemmas.List.{get_or-map, length-map}
use Rattle.std.proofs.ByRecursion.{All-append, All-map, All-weaker, all-has}
use Rattle.std.proofs.lemmas.List.Edits.{length-remove, get_or-remove_below, get_or-remove_above}
use Rattle.std.proofs.lemmas.Bool.{cases_order}
use Rattle.method.specs.Fillings.{Pairwise, Different, Listing}

pub pairwise_append : {A : Type 0} (R : A → A → Type 0) (xs ys : List A) → Pairwise R xs → Pairwise R ys → AllByRecursion (λ x. AllByRecursion (R x) ys) xs → Pairwise R (xs ++ ys)
pairwise_append R [] ys p q h = q
pairwise_append R (x ∷ xs) ys p q h = (All-append (R x) xs ys p.0 h.0, pairwise_append R xs ys p.1 q h.1)

pub pairwise_map : {A B : Type 0} (R : A → A → Type 0) (Q : B → B → Type 0) (f : A → B) → ((x y : A) → R x y → Q (f x) (f y)) → (xs : List A) → Pairwise R xs → Pairwise Q (map f xs)
pairwise_map R Q f h [] p = tt
pairwise_map R Q f h (x ∷ xs) p = (All-map (Q (f x)) f xs (All-weaker (R x) (λ y. Q (f x) (f y)) (h x) xs p.0), pairwise_map R Q f h xs p.1)

pub pairwise_weaker : {A : Type 0} (R Q : A → A → Type 0) → ((x y : A) → R x y → Q x y) → (xs : List A) → Pairwise R xs → Pairwise Q xs
pairwise_weaker R Q h [] p = tt
pairwise_weaker R Q h (x ∷ xs) p = (All-weaker (R x) (Q x) (h x) xs p.0, pairwise_weaker R Q h xs p.1)

pub has_map : {A B : Type 0} (f : A → B) (xs : List A) (x : A) → Has xs x → Has (map f xs) (f x)
has_map f xs x h = (h.0, omega (arith, h.1, length-map xs f), λ d. get_or-map f xs h.0 x d h.1 ∙ ap f (h.2 x))

-- what stands in a list, and is not its i-th element, stands in the rest
has_rest : {A : Type 0} (xs : List A) (i : ℕ) (x y : A) → i < length xs → ((d : A) → get_or xs i d ≡ x) → x ≢ y → Has xs y → Has (remove xs i) y
has_rest {A} xs i x y l is ne h = go (cases_order h.0 i)
  where
    j : ℕ
    j = h.0

    go : (j ≡ i) ⊎ ((j < i) ⊎ (i < j)) → Has (remove xs i) y
    go (inl z) = absurd (ne (sym (is y) ∙ ap (λ n. get_or xs n y) (sym z) ∙ h.2 y))
    go (inr (inl b)) = (j, omega (arith, length-remove xs i l), λ d. get_or-remove_below xs i d j b l ∙ h.2 d)
    go (inr (inr a)) =
        let z : j - 1 + 1 ≡ j = omega (arith, a) in
        (j - 1, omega (arith, a, h.1, length-remove xs i l), λ d. get_or-remove_above xs i d (j - 1) (omega (arith, a)) l ∙ ap (λ n. get_or xs n d) z ∙ h.2 d)

-- different elements that all stand in a list are at most as many as that has
fewer : {A : Type 0} (xs ys : List A) → Different xs → ((x : A) → Has xs x → Has ys x) → length xs ≤ length ys
fewer [] ys p h = omega arith
fewer (x ∷ xs) ys p h =
    let t = h x (0, omega arith, λ d. refl) in
    let n = fewer xs (remove ys t.0) p.1 (λ y g.
    has_rest ys t.0 x y t.1 t.2 (all-has (λ y. x ≢ y) xs y p.0 g) (h y (suc g.0, omega (arith, g.1), g.2))) in
    omega (arith, n, length-remove ys t.0 t.1)

pub listing_same : {A : Type 0} {Q : A → Type 0} (m n : ℕ) → Listing Q m → Listing Q n → m ≡ n
listing_same m n p q =
    let a = fewer p.list q.list p.different (λ x h. (q.all x).0 ((p.all x).1 h)) in
    let b = fewer q.list p.list q.different (λ x h. (p.all x).0 ((q.all x).1 h)) in
    omega (arith, a, b, p.long, q.long)

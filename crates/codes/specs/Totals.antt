-- Sums over a stretch of numbers. (But for Σ these are lemmas, and state nothing to be believed.)
--
--   Σ f s n                    f s + f (s + 1) + .. , n summands
--   sum_by_counting, Σ_list     such a sum as one over a list
--   Σ_same, Σ_add, Σ_none, Σ_const, Σ_one   of equal, added, zero and constant summands, and of one that counts
--   Σ_append, Σ_blocks, Σ_swap, Σ_turned    a stretch cut in two, into blocks, summed by columns, and read across
use Rattle.std.specs.Prelude.{◌≡◌, ℕ, zero, suc, ◌+◌, ◌*◌, ◌/◌, ◌%◌, ◌<◌, ◌≤◌, cond, List, [], ◌∷◌, map, length, sum_by, ◌==◌, slice_index_or, refl}
use Rattle.std.proofs.Common.{sym, ap, ◌∙◌, ⊎_elim, zero-add, add-zero, add_assoc, add_comm, zero-mul, suc-mul, one-mul, add-mul, mul_comm, arith}
use Rattle.std.specs.List.{range_with_len}
use Rattle.std.proofs.lemmas.Nat.{div-mul-add, mod-mul-add}
use Rattle.std.proofs.lemmas.List.Sums.{sum_by-cons}
use Rattle.std.proofs.lemmas.Bool.{eq-eqb, ne_eqb, cases_eq, cond-true, cond-false}

abbrev pub Σ : (ℕ → ℕ) → ℕ → ℕ → ℕ
Σ f s zero = 0
Σ f s (suc n) = f s + Σ f (s + 1) n

pub sum_by_counting : {X : Type 0} (g : X → ℕ) (f : ℕ → X) (s n : ℕ) → sum_by g (map f (range_with_len s n)) ≡ Σ (λ r. g (f r)) s n
sum_by_counting g f s zero = refl
sum_by_counting g f s (suc n) = sum_by-cons g (f s) (map f (range_with_len (s + 1) n)) ∙ ap (λ v. g (f s) + v) (sum_by_counting g f (s + 1) n)

pub Σ_same : (f g : ℕ → ℕ) (s n : ℕ) → ((r : ℕ) → s ≤ r → r < s + n → f r ≡ g r) → Σ f s n ≡ Σ g s n
Σ_same f g s zero h = refl
Σ_same f g s (suc n) h = omega (arith, h s (omega arith) (omega arith), Σ_same f g (s + 1) n (λ r l u. h r (omega arith) (omega arith)))

pub Σ_add : (f g : ℕ → ℕ) (s n : ℕ) → Σ (λ r. f r + g r) s n ≡ Σ f s n + Σ g s n
Σ_add f g s zero = refl
Σ_add f g s (suc n) = omega (arith, Σ_add f g (s + 1) n)

pub Σ_none : (s n : ℕ) → Σ (λ r. 0) s n ≡ 0
Σ_none s zero = refl
Σ_none s (suc n) = omega (arith, Σ_none (s + 1) n)

pub Σ_const : (k s n : ℕ) → Σ (λ r. k) s n ≡ n * k
Σ_const k s zero = sym (zero-mul k)
Σ_const k s (suc n) = ap (λ v. k + v) (Σ_const k (s + 1) n) ∙ add_comm k (n * k) ∙ sym (suc-mul n k)

-- a test for one number counts 0 over a stretch beyond it, and 1 over a stretch that has it
Σ_past : (x s n : ℕ) → x < s → Σ (λ r. cond (x == r) 1 0) s n ≡ 0
Σ_past x s zero h = refl
Σ_past x s (suc n) h = omega (arith, cond-false {A = ℕ} (x == s) 1 0 (ne_eqb x s (λ e. omega arith)), Σ_past x (s + 1) n (omega arith))

pub Σ_one : (x s n : ℕ) → s ≤ x → x < s + n → Σ (λ r. cond (x == r) 1 0) s n ≡ 1
Σ_one x s zero l u = absurd (omega arith)
Σ_one x s (suc n) l u =
    ⊎_elim
    (λ e. omega (arith, cond-true {A = ℕ} (x == s) 1 0 (eq-eqb x s e), Σ_past x (s + 1) n (omega arith)))
    (λ ne. let low : s + 1 ≤ x = omega arith in omega (arith, cond-false {A = ℕ} (x == s) 1 0 (ne_eqb x s ne), Σ_one x (s + 1) n low (omega arith)))
    (cases_eq x s)

pub Σ_append : (f : ℕ → ℕ) (s p q : ℕ) → Σ f s (p + q) ≡ Σ f s p + Σ f (s + p) q
Σ_append f s zero q = ap (λ n. Σ f s n) (zero-add q) ∙ ap (λ u. Σ f u q) (sym (add-zero s)) ∙ sym (zero-add (Σ f (s + 0) q))
Σ_append f s (suc p) q =
    let e : suc p + q ≡ suc (p + q) = omega arith in
    let u : s + 1 + p ≡ s + suc p = omega arith in
    ap (λ n. Σ f s n) e ∙ ap (λ n. f s + n) (Σ_append f (s + 1) p q ∙ ap (λ v. Σ f (s + 1) p + Σ f v q) u) ∙ sym (add_assoc (f s) (Σ f (s + 1) p) (Σ f (s + suc p) q))

-- a stretch that begins later, as one of a function that is read later
Σ_from : (f : ℕ → ℕ) (s t n : ℕ) → Σ f (s + t) n ≡ Σ (λ x. f (s + x)) t n
Σ_from f s t zero = refl
Σ_from f s t (suc n) = ap (λ v. f (s + t) + v) (ap (λ u. Σ f u n) (add_assoc s t 1) ∙ Σ_from f s (t + 1) n)

pub Σ_list : {X : Type 0} (g : X → ℕ) (d : X) (xs : List X) → Σ (λ r. g (slice_index_or xs r d)) 0 (length xs) ≡ sum_by g xs
Σ_list g d [] = refl
Σ_list g d (x ∷ xs) =
    let later : Σ (λ r. g (slice_index_or (x ∷ xs) r d)) 1 (length xs) ≡ Σ (λ r. g (slice_index_or (x ∷ xs) (1 + r) d)) 0 (length xs) = Σ_from (λ r. g (slice_index_or (x ∷ xs) r d)) 1 0 (length xs) in
    let same : Σ (λ r. g (slice_index_or (x ∷ xs) (1 + r) d)) 0 (length xs) ≡ Σ (λ r. g (slice_index_or xs r d)) 0 (length xs) =
    Σ_same (λ r. g (slice_index_or (x ∷ xs) (1 + r) d)) (λ r. g (slice_index_or xs r d)) 0 (length xs) (λ r _ _. let e : 1 + r ≡ suc r = omega arith in ap (λ i. g (slice_index_or (x ∷ xs) i d)) e) in
    ap (λ v. g x + v) (later ∙ same ∙ Σ_list g d xs) ∙ sym (sum_by-cons g x xs)

-- n blocks of a numbers each
pub Σ_blocks : (f : ℕ → ℕ) (y n a : ℕ) → Σ f (y * a) (n * a) ≡ Σ (λ y. Σ (λ x. f (y * a + x)) 0 a) y n
Σ_blocks f y zero a = ap (λ n. Σ f (y * a) n) (zero-mul a)
Σ_blocks f y (suc n) a =
    let e : suc n * a ≡ a + n * a = suc-mul n a ∙ add_comm (n * a) a in
    let u : y * a + a ≡ (y + 1) * a = sym (add-mul y 1 a ∙ ap (λ v. y * a + v) (one-mul a)) in
    let head : Σ f (y * a) a ≡ Σ (λ x. f (y * a + x)) 0 a = ap (λ v. Σ f v a) (sym (add-zero (y * a))) ∙ Σ_from f (y * a) 0 a in
    ap (λ v. Σ f (y * a) v) e ∙ Σ_append f (y * a) a (n * a) ∙ ap (λ v. v + Σ f (y * a + a) (n * a)) head ∙ ap (λ v. Σ (λ x. f (y * a + x)) 0 a + v) (ap (λ v. Σ f v (n * a)) u ∙ Σ_blocks f (y + 1) n a)

pub Σ_swap : (g : ℕ → ℕ → ℕ) (s n t m : ℕ) → Σ (λ x. Σ (λ y. g x y) t m) s n ≡ Σ (λ y. Σ (λ x. g x y) s n) t m
Σ_swap g s zero t m = sym (Σ_none t m)
Σ_swap g s (suc n) t m =
    ap (λ v. Σ (λ y. g s y) t m + v) (Σ_swap g (s + 1) n t m) ∙ sym (Σ_add (λ y. g s y) (λ y. Σ (λ x. g x y) (s + 1) n) t m)

across : (f : ℕ → ℕ) (a z x y : ℕ) → x < a → f ((y * a + x) / a + (y * a + x) % a * z) ≡ f (x * z + y)
across f a z x y h =
    ap (λ v. f (v + (y * a + x) % a * z)) (div-mul-add y a x h) ∙ ap (λ v. f (y + v * z)) (mod-mul-add y a x h) ∙ ap f (add_comm y (x * z))

-- numbers read as x * z + y, for x + y * a, sum to the same
pub Σ_turned : (f : ℕ → ℕ) (a z : ℕ) → Σ (λ r. f (r / a + r % a * z)) 0 (a * z) ≡ Σ f 0 (a * z)
Σ_turned f a z =
    ap (λ v. Σ (λ r. f (r / a + r % a * z)) 0 v) (mul_comm a z)
    ∙ ap (λ u. Σ (λ r. f (r / a + r % a * z)) u (z * a)) (sym (zero-mul a))
    ∙ Σ_blocks (λ r. f (r / a + r % a * z)) 0 z a
    ∙ Σ_same (λ y. Σ (λ x. f ((y * a + x) / a + (y * a + x) % a * z)) 0 a) (λ y. Σ (λ x. f (x * z + y)) 0 a) 0 z
    (λ y _ _. Σ_same (λ x. f ((y * a + x) / a + (y * a + x) % a * z)) (λ x. f (x * z + y)) 0 a (λ x l u. across f a z x y (omega arith)))
    ∙ Σ_swap (λ y x. f (x * z + y)) 0 z 0 a
    ∙ sym (Σ_blocks f 0 a z)
    ∙ ap (λ u. Σ f u (a * z)) (zero-mul z)

-- One word's bits: under exclusive or, and, or and shifts, and the lowest one that is set.
use Rattle.std.proofs.Common.{◌≡◌, ℕ, zero, suc, ◌+◌, ◌-◌, ◌*◌, ◌/◌, ◌%◌, ◌^◌, ◌<◌, ◌≤◌, true, false, ◌&&◌, ◌||◌, eqb, ◌⊎◌, sym, refl, ap, ◌∙◌, inl, inr, ⊎_elim, lt_of_lt_of_le, pow-suc, div-one, arith, pow_mono}
use native.Mathlib.Nat.{div_self, mul-mod_left, div-eq_of_lt, pow-succ', div-div-eq-div-mul}
use lib.Bits.{bit_xor, bit_and, bit_or}
use lib.Count.{count_trailing_zeros, under}
use Rattle.std.proofs.lemmas.Nat.{xor_shr, xor_mod, and_shr, and_mod, or_shr, or_mod, mod_below, pow-add, pow_pos, pow_below, shl-shr, and_mask}
use Rattle.std.proofs.lemmas.Bool.{cases_order, cases_lt, both_ways, eq-eqb, ne_eqb}
use Rattle.bits.specs.Sets.{bit, differ}

-- a remainder by 2
pub two : (n : ℕ) → (n % 2 ≡ 0) ⊎ (n % 2 ≡ 1)
two n = grind (arith, mod_below n 2 (omega arith))

-- the three operations at 0 and 1
module _ (x y : ℕ) where
  xor_two : (x ≡ 0) ⊎ (x ≡ 1) → (y ≡ 0) ⊎ (y ≡ 1) → eqb (bit_xor x y) 1 ≡ differ (eqb x 1) (eqb y 1)
  xor_two (inl p) (inl q) = rw (p, q)
  xor_two (inl p) (inr q) = rw (p, q)
  xor_two (inr p) (inl q) = rw (p, q)
  xor_two (inr p) (inr q) = rw (p, q)

  and_two : (x ≡ 0) ⊎ (x ≡ 1) → (y ≡ 0) ⊎ (y ≡ 1) → eqb (bit_and x y) 1 ≡ (eqb x 1 && eqb y 1)
  and_two (inl p) (inl q) = simp (p, q)
  and_two (inl p) (inr q) = simp (p, q)
  and_two (inr p) (inl q) = simp (p, q)
  and_two (inr p) (inr q) = simp (p, q)

  or_two : (x ≡ 0) ⊎ (x ≡ 1) → (y ≡ 0) ⊎ (y ≡ 1) → eqb (bit_or x y) 1 ≡ (eqb x 1 || eqb y 1)
  or_two (inl p) (inl q) = simp (p, q)
  or_two (inl p) (inr q) = simp (p, q)
  or_two (inr p) (inl q) = simp (p, q)
  or_two (inr p) (inr q) = simp (p, q)

module _ (a b k : ℕ) where
  pub bit_of_xor : bit (bit_xor a b) k ≡ differ (bit a k) (bit b k)
  bit_of_xor =
      ap (λ n. eqb (n % 2) 1) (xor_shr a b k)
      ∙ ap (λ n. eqb n 1) (xor_mod (a / 2 ^ k) (b / 2 ^ k) 1)
      ∙ xor_two _ _ (two (a / 2 ^ k)) (two (b / 2 ^ k))

  pub bit_of_and : bit (bit_and a b) k ≡ (bit a k && bit b k)
  bit_of_and =
      ap (λ n. eqb (n % 2) 1) (and_shr a b k)
      ∙ ap (λ n. eqb n 1) (and_mod (a / 2 ^ k) (b / 2 ^ k) 1)
      ∙ and_two _ _ (two (a / 2 ^ k)) (two (b / 2 ^ k))

  pub bit_of_or : bit (bit_or a b) k ≡ (bit a k || bit b k)
  bit_of_or =
      ap (λ n. eqb (n % 2) 1) (or_shr a b k)
      ∙ ap (λ n. eqb n 1) (or_mod (a / 2 ^ k) (b / 2 ^ k) 1)
      ∙ or_two _ _ (two (a / 2 ^ k)) (two (b / 2 ^ k))

-- what `(w >> k) & 1 == 1` tests
pub bit_tested : (w k : ℕ) → eqb (bit_and (w / 2 ^ k) 1) 1 ≡ bit w k
bit_tested w k = ap (λ n. eqb n 1) (and_mask (w / 2 ^ k) 1)

-- the bits of a word that is shifted down
pub bit_shifted : (w k j : ℕ) → bit (w / 2 ^ k) j ≡ bit w (k + j)
bit_shifted w k j = ap (λ n. eqb (n % 2) 1) (div-div-eq-div-mul w (2 ^ k) (2 ^ j) ∙ ap (λ n. w / n) (sym (pow-add 2 k j)))

-- no bit from k on, in a word below 2 ^ k
pub bit_high : (n k j : ℕ) → n < 2 ^ k → k ≤ j → bit n j ≡ false
bit_high n k j h le = ap (λ q. eqb (q % 2) 1) (div-eq_of_lt (lt_of_lt_of_le h (pow_mono le)))

pub bit_zero : (k : ℕ) → bit 0 k ≡ false
bit_zero k = bit_high 0 0 k (omega arith) (omega arith)

-- a power of two has one bit
module _ (j k : ℕ) where
  one_cases : (k ≡ j) ⊎ ((k < j) ⊎ (j < k)) → bit (2 ^ j) k ≡ eqb k j
  one_cases (inl e) = rw e (ap (λ n. eqb (n % 2) 1) (div_self (pow_pos j)) ∙ sym (eq-eqb j j refl))
  one_cases (inr (inl l)) =
      let d : ℕ = j - k - 1 in
      let e : j ≡ suc d + k = omega arith in
      let q : 2 ^ j / 2 ^ k ≡ 2 ^ d * 2 = ap (λ n. 2 ^ n / 2 ^ k) e ∙ ap (λ n. n / 2 ^ k) (pow-add 2 (suc d) k) ∙ shl-shr (2 ^ suc d) k ∙ pow-suc 2 d in
      ap (λ n. eqb (n % 2) 1) q ∙ ap (λ n. eqb n 1) (mul-mod_left (2 ^ d) 2) ∙ sym (ne_eqb k j (omega arith))
  one_cases (inr (inr l)) = ap (λ n. eqb (n % 2) 1) (div-eq_of_lt (pow_below j k l)) ∙ sym (ne_eqb k j (omega arith))

  pub bit_one : bit (2 ^ j) k ≡ eqb k j
  bit_one = one_cases (cases_order k j)

-- one bit up is the same bit of the half
pub bit_up : (n k : ℕ) → bit n (suc k) ≡ bit (n / 2) k
bit_up n k = ap (λ e. eqb (n / e % 2) 1) (pow-succ' 2 k) ∙ ap (λ q. eqb (q % 2) 1) (sym (div-div-eq-div-mul n 2 (2 ^ k)))

bit_low : (n : ℕ) → bit n 0 ≡ eqb (n % 2) 1
bit_low n = ap (λ q. eqb (q % 2) 1) (div-one n)

-- the lowest set bit, of a number that has one below k
module _ (k n : ℕ) where
  set_step : (0 < n / 2 → bit (n / 2) (count_trailing_zeros k (n / 2)) ≡ true) → 0 < n → (n % 2 ≡ 0) ⊎ (n % 2 ≡ 1) → bit n (under (n % 2) (count_trailing_zeros k (n / 2))) ≡ true
  set_step more some (inl e) = rw e (bit_up n _ ∙ more (omega arith))
  set_step more some (inr e) = rw e (bit_low n ∙ ap (λ q. eqb q 1) e)

  below_step : (j : ℕ) → ((i : ℕ) → i < count_trailing_zeros k (n / 2) → bit (n / 2) i ≡ false) → (n % 2 ≡ 0) ⊎ (n % 2 ≡ 1) → j < under (n % 2) (count_trailing_zeros k (n / 2)) → bit n j ≡ false
  below_step zero more (inl e) h = bit_low n ∙ ap (λ q. eqb q 1) e
  below_step (suc j) more (inl e) h = bit_up n j ∙ more j (let l : suc j < suc (count_trailing_zeros k (n / 2)) = rw e at h in omega arith)
  below_step j more (inr e) h = absurd (let l : j < 0 = rw e at h in omega arith)

pub lowest_set : (k n : ℕ) → 0 < n → n < 2 ^ k → bit n (count_trailing_zeros k n) ≡ true
unfolding count_trailing_zeros
lowest_set zero n some h = absurd (omega arith)
lowest_set (suc k) n some h = set_step k n (λ half. lowest_set k (n / 2) half (let p : n < 2 ^ k * 2 = rw pow-suc at h in omega (arith, p))) some (two n)

pub lowest_below : (k n j : ℕ) → j < count_trailing_zeros k n → bit n j ≡ false
unfolding count_trailing_zeros
lowest_below zero n j h = absurd (omega arith)
lowest_below (suc k) n j h = below_step k n j (lowest_below k (n / 2)) (two n) h

pub lowest_lt : (k n : ℕ) → 0 < n → n < 2 ^ k → count_trailing_zeros k n < k
lowest_lt k n some h =
    ⊎_elim (λ (l : count_trailing_zeros k n < k). l)
    (λ (g : k ≤ count_trailing_zeros k n). absurd (both_ways _ (bit_high n k _ h g) (lowest_set k n some h)))
    (cases_lt (count_trailing_zeros k n) k)

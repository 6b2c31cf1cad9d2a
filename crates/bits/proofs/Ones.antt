-- The ones of a word are the numbers that it holds.
use Rattle.std.proofs.Common.{◌≡◌, ℕ, zero, suc, ◌+◌, ◌*◌, ◌/◌, ◌%◌, ◌^◌, ◌<◌, ◌≤◌, cond, eqb, ◌⊎◌, List, ◌∷◌, ◌++◌, length, take, map, get_or, sum, count_by, sym, refl, ap, ◌∙◌, subst, inl, inr, add-zero, pow-suc, zero-add, div-one, one-add, arith}
use lib.Count.{ones}
use lib.Lanes.{mask_l}
use Rattle.std.specs.List.{range_with_len, sum_by}
use Rattle.std.proofs.lemmas.List.FromFn.{length-map-range_with_len, get_or-map-range_with_len}
use Rattle.std.proofs.lemmas.Simd.{ones-mask_l}
use Rattle.std.proofs.lemmas.List.{same_lists, take_all}
use Rattle.std.proofs.lemmas.Nat.{ones-le}
use Rattle.std.proofs.lemmas.List.Sums.{sum_by-append, sum_by_more, sum-map}
use Rattle.bits.specs.Sets.{bit, holds}
use Rattle.bits.proofs.Word.{two, bit_up}

pub map_like : {X : Type 0} (f g : ℕ → X) (a b n : ℕ) → ((i : ℕ) → i < n → f (a + i) ≡ g (b + i)) → map f (range_with_len a n) ≡ map g (range_with_len b n)
map_like f g a b n e =
    same_lists _ _ (length-map-range_with_len f a n ∙ sym (length-map-range_with_len g b n)) (λ k d h.
    let l : k < n = omega (arith, length-map-range_with_len f a n) in
    get_or-map-range_with_len f a n k (a + k) d l refl ∙ e k l ∙ sym (get_or-map-range_with_len g b n k (b + k) d l refl))

low : (n : ℕ) → (n % 2 ≡ 0) ⊎ (n % 2 ≡ 1) → cond (bit n 0) 1 0 + 2 * (n / 2) ≡ n
low n (inl e) = ap (λ q. cond (eqb (q % 2) 1) 1 0 + 2 * (n / 2)) (div-one n) ∙ ap (λ q. cond (eqb q 1) 1 0 + 2 * (n / 2)) e ∙ omega arith
low n (inr e) = ap (λ q. cond (eqb (q % 2) 1) 1 0 + 2 * (n / 2)) (div-one n) ∙ ap (λ q. cond (eqb q 1) 1 0 + 2 * (n / 2)) e ∙ omega arith

-- a word is made of its bits
word_is : (k n : ℕ) → n < 2 ^ k → mask_l (map (bit n) (range_with_len 0 k)) ≡ n
word_is zero n h = omega arith
word_is (suc k) n h =
    let p : n < 2 ^ k * 2 = rw pow-suc at h in
    let e : map (bit n) (range_with_len (0 + 1) k) ≡ map (bit (n / 2)) (range_with_len 0 k) = map_like (bit n) (bit (n / 2)) (0 + 1) 0 k (λ i l. ap (bit n) (one-add i) ∙ bit_up n i ∙ ap (bit (n / 2)) (sym (zero-add i))) in
    ap (λ xs. cond (bit n 0) 1 0 + 2 * mask_l xs) e ∙ ap (λ m. cond (bit n 0) 1 0 + 2 * m) (word_is k (n / 2) (omega (arith, p))) ∙ low n (two n)

counting_cat : (a n m : ℕ) → range_with_len a (n + m) ≡ range_with_len a n ++ range_with_len (a + n) m
counting_cat a zero m = ap (range_with_len a) (zero-add m) ∙ ap (λ b. range_with_len b m) (sym (add-zero a))
counting_cat a (suc n) m =
    let f : suc n + m ≡ suc (n + m) = omega arith in
    let b : (a + 1) + n ≡ a + suc n = omega arith in
    ap (range_with_len a) f ∙ ap (λ xs. a ∷ xs) (counting_cat (a + 1) n m ∙ ap (λ x. range_with_len (a + 1) n ++ range_with_len x m) b)

ones_count : (k w : ℕ) → w < 2 ^ k → ones w ≡ count_by (bit w) (range_with_len 0 k)
ones_count k w h = ap ones (sym (word_is k w h)) ∙ ones-mask_l (bit w) (range_with_len 0 k)

-- the bits of word i, over a width that does not compute
module _ (ws : List ℕ) (i w : ℕ) (is : w ≡ get_or ws i 0) (k : ℕ) (wide : k ≡ 64) (fits : w < 2 ^ k) where
  word_bits : count_by (holds ws) (range_with_len (64 * i) k) ≡ count_by (bit w) (range_with_len 0 k)
  word_bits =
      sym (sum-map (λ x. cond (holds ws x) 1 0) (range_with_len (64 * i) k))
      ∙ ap sum (map_like (λ x. cond (holds ws x) 1 0) (λ x. cond (bit w x) 1 0) (64 * i) 0 k (λ j l.
      let q : (64 * i + j) / 64 ≡ i = omega arith in
      let r : (64 * i + j) % 64 ≡ j = omega arith in
      rw (q, r, is) (ap (λ x. cond (bit (get_or ws i 0) x) 1 0) (sym (zero-add j)))))
      ∙ sum-map (λ x. cond (bit w x) 1 0) (range_with_len 0 k)

  -- one more word
  pub count_more : count_by (holds ws) (range_with_len 0 (64 * i)) + ones w ≡ count_by (holds ws) (range_with_len 0 (64 * (i + 1)))
  count_more =
      let split : 64 * i + k ≡ 64 * (i + 1) = omega arith in
      ap (λ n. count_by (holds ws) (range_with_len 0 (64 * i)) + n) (ones_count k w fits ∙ sym word_bits ∙ ap (λ a. count_by (holds ws) (range_with_len a k)) (sym (zero-add (64 * i))))
      ∙ sym (ap (λ n. count_by (holds ws) (range_with_len 0 n)) (sym split) ∙ ap (count_by (holds ws)) (counting_cat 0 (64 * i) k) ∙ sum_by-append (λ x. cond (holds ws x) 1 0) (range_with_len 0 (64 * i)) (range_with_len (0 + 64 * i) k))

-- the ones of all words are the numbers that a set holds
module _ (ws : List ℕ) (fits : (i : ℕ) → get_or ws i 0 < 2 ^ 64) where
  ones_to : (i : ℕ) → i ≤ length ws → (sum_by ones (take i ws) ≡ count_by (holds ws) (range_with_len 0 (64 * i))) × (sum_by ones (take i ws) ≤ 64 * i)
  ones_to zero l = (refl, omega arith)
  ones_to (suc i) l =
      let w = get_or ws i 0 in
      let before = ones_to i (omega (arith, l)) in
      let more = sum_by_more ones ws i 0 (omega (arith, l)) in
      let next : i + 1 ≡ suc i = omega arith in
      subst (λ j. (sum_by ones (take j ws) ≡ count_by (holds ws) (range_with_len 0 (64 * j))) × (sum_by ones (take j ws) ≤ 64 * j)) next
      (more ∙ ap (λ n. n + ones w) before.0 ∙ count_more ws i w refl 64 refl (fits i), omega (arith, more, before.1, ones-le 64 w (fits i)))

  whole : take (length ws) ws ≡ ws
  whole = take_all (length ws) ws (omega arith)

  pub ones_all : sum_by ones ws ≡ count_by (holds ws) (range_with_len 0 (64 * length ws))
  ones_all = ap (sum_by ones) (sym whole) ∙ (ones_to (length ws) (omega arith)).0

  pub ones_few : sum_by ones ws ≤ 64 * length ws
  ones_few = subst (λ xs. sum_by ones xs ≤ 64 * length ws) whole (ones_to (length ws) (omega arith)).1

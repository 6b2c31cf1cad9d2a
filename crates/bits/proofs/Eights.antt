-- Rows eight by eight: the byte that tells which of eight rows hold a number, and where it lies in a set.
use Rattle.std.proofs.Common.{◌≡◌, ℕ, zero, suc, ◌+◌, ◌-◌, ◌*◌, ◌/◌, ◌%◌, ◌^◌, ◌<◌, ◌≤◌, Bool, true, false, ◌&&◌, ◌||◌, cond, eqb, ltb, ◌⊎◌, List, [], ◌∷◌, map, length, get_or, drop, replicate, set, sym, refl, ap, ◌∙◌, ap₂, inl, inr, ⊎_elim, lt_of_lt_of_le, subst, mul_assoc, pow-suc, w64, arith, pow_mono, get_or-set_other, get_or-set_same}
use native.Mathlib.Nat.{mul-mod_left, mod-eq_of_lt}
use lib.Bits.{bit_and, bit_or}
use lib.Lanes.{mask_l, top, zip2}
use Rattle.std.specs.Int.{bit_at}
use Rattle.std.specs.Simd.{first_chunks}
use Rattle.std.proofs.lemmas.List.{get_or-take, get_or-drop, get_or_past, get_or-map, get_or-replicate, length-map}
use Rattle.std.proofs.lemmas.Nat.{pow-add, pow_pos, shl-shr}
use Rattle.std.proofs.lemmas.Nat.Bits.{and_pow}
use Rattle.std.proofs.lemmas.Simd.{mask_l-lt, bit_mask_l, bitmask_splat, get_or-zip2, length-zip2}
use Rattle.std.proofs.lemmas.Bool.{cases_lt, cases_eq, eq-eqb, ne_eqb, lt-ltb, le-ltb}
use Rattle.bits.specs.Sets.{bit, holds, row, Put}
use Rattle.bits.proofs.Word.{two, bit_zero, bit_high, bit_shifted, bit_of_or}
use Rattle.bits.proofs.Held.{or_none, holds_past}
use Rattle.bits.proofs.Rows.{chunk_at, row_within, row_past, length_row}

-- `w & (1 << k) == 1 << k`
module _ (w k : ℕ) where
  one_of : (n : ℕ) → (n ≡ 0) ⊎ (n ≡ 1) → eqb (n * 2 ^ k) (2 ^ k) ≡ eqb n 1
  one_of n (inl e) = rw e (ne_eqb (0 * 2 ^ k) (2 ^ k) (omega (arith, pow_pos k)))
  one_of n (inr e) = rw e (eq-eqb (1 * 2 ^ k) (2 ^ k) (omega arith))

  pub bit_masked : eqb (bit_and w (2 ^ k)) (2 ^ k) ≡ bit w k
  bit_masked = ap (λ n. eqb n (2 ^ k)) (and_pow w k) ∙ one_of (bit_at w k) (two (w / 2 ^ k))

-- the bits of a mask
one_is : (b : Bool) → eqb (cond b 1 0) 1 ≡ b
one_is true = refl
one_is false = refl

pub bit_of_mask : (bs : List Bool) (k : ℕ) → bit (mask_l bs) k ≡ get_or bs k false
bit_of_mask bs k = ap (λ n. eqb n 1) (bit_mask_l bs k) ∙ one_is (get_or bs k false)

-- which of eight words have a bit
module _ (ws : List ℕ) (one : ℕ) (eight : length ws ≡ 8) where
  abbrev tests : List ℕ
  tests = zip2 bit_and ws (replicate 8 one)

  abbrev asked : List Bool
  asked = map (λ x. eqb x one) tests

  long : length tests ≡ 8
  long = length-zip2 bit_and ws (replicate 8 one) eight ∙ eight

  pub mask_is : mask_l (map (top 63) (zip2 (λ a b. cond (eqb a b) (2 ^ 64 - 1) 0) tests (replicate 8 one))) % 2 ^ 64 ≡ mask_l asked
  mask_is = bitmask_splat w64 eqb tests 8 one long (omega arith)

  pub mask_few : mask_l asked < 2 ^ 8
  mask_few = subst (λ n. mask_l asked < 2 ^ n) (length-map tests (λ x. eqb x one) ∙ long) (mask_l-lt asked)

  pub mask_each : (k : ℕ) → k < 8 → bit (mask_l asked) k ≡ eqb (bit_and (get_or ws k 0) one) one
  mask_each k h =
      bit_of_mask asked k
      ∙ get_or-map (λ x. eqb x one) tests k 0 false (omega (arith, long))
      ∙ ap (λ x. eqb x one) (get_or-zip2 bit_and ws (replicate 8 one) k 0 0 0 (omega (arith, eight)) h ∙ ap (bit_and (get_or ws k 0)) (get_or-replicate 8 k one 0 h))

-- the words of eight rows
pub eight_words : (rows : List (List ℕ)) (i k : ℕ) → k < 8
    → get_or (get_or (get_or rows 0 []) i 0 ∷ get_or (get_or rows 1 []) i 0 ∷ get_or (get_or rows 2 []) i 0 ∷ get_or (get_or rows 3 []) i 0 ∷ get_or (get_or rows 4 []) i 0 ∷ get_or (get_or rows 5 []) i 0 ∷ get_or (get_or rows 6 []) i 0 ∷ get_or (get_or rows 7 []) i 0 ∷ []) k 0
    ≡ get_or (get_or rows k []) i 0
eight_words rows i zero h = refl
eight_words rows i (suc zero) h = refl
eight_words rows i (suc (suc zero)) h = refl
eight_words rows i (suc (suc (suc zero))) h = refl
eight_words rows i (suc (suc (suc (suc zero)))) h = refl
eight_words rows i (suc (suc (suc (suc (suc zero))))) h = refl
eight_words rows i (suc (suc (suc (suc (suc (suc zero)))))) h = refl
eight_words rows i (suc (suc (suc (suc (suc (suc (suc zero))))))) h = refl
eight_words rows i (suc (suc (suc (suc (suc (suc (suc (suc k)))))))) h = absurd (omega arith)

-- a byte shifted to its place in a word
module _ (b j t : ℕ) (few : b < 2 ^ 8) (j_in : j < 8) (t_in : t < 64) where
  within : b * 2 ^ (8 * j) < 2 ^ (8 * j + 8)
  within =
      let e : 2 ^ (8 * j + 8) ≡ 2 ^ (8 * j) * 2 ^ 8 = pow-add 2 (8 * j) 8 in
      rw e (grind (arith, few, pow_pos (8 * j)))

  fits : b * 2 ^ (8 * j) < 2 ^ 64
  fits = lt_of_lt_of_le within (pow_mono {i = 8 * j + 8} {j = 64} (omega arith))

  placed_at : t / 8 ≡ j → bit (b * 2 ^ (8 * j)) t ≡ bit b (t % 8)
  placed_at e =
      let s : t ≡ 8 * j + t % 8 = omega arith in
      ap (bit (b * 2 ^ (8 * j))) s ∙ sym (bit_shifted (b * 2 ^ (8 * j)) (8 * j) (t % 8)) ∙ ap (λ n. bit n (t % 8)) (shl-shr b (8 * j))

  placed_below : t < 8 * j → bit (b * 2 ^ (8 * j)) t ≡ false
  placed_below h =
      let d : ℕ = 8 * j - t - 1 in
      let e : 8 * j ≡ suc d + t = omega arith in
      let up : b * 2 ^ (suc d + t) / 2 ^ t ≡ b * 2 ^ suc d = ap (λ x. x / 2 ^ t) (ap (λ x. b * x) (pow-add 2 (suc d) t) ∙ sym (mul_assoc b (2 ^ suc d) (2 ^ t))) ∙ shl-shr (b * 2 ^ suc d) t in
      let even : b * 2 ^ suc d ≡ b * 2 ^ d * 2 = ap (λ x. b * x) (pow-suc 2 d) ∙ sym (mul_assoc b (2 ^ d) 2) in
      ap (λ n. eqb (b * 2 ^ n / 2 ^ t % 2) 1) e ∙ ap (λ n. eqb (n % 2) 1) (up ∙ even) ∙ ap (λ n. eqb n 1) (mul-mod_left (b * 2 ^ d) 2)

  placed_above : 8 * j + 8 ≤ t → bit (b * 2 ^ (8 * j)) t ≡ false
  placed_above h = bit_high (b * 2 ^ (8 * j)) (8 * j + 8) t within h

  placed : bit (b * 2 ^ (8 * j) % 2 ^ 64) t ≡ (eqb (t / 8) j && bit b (t % 8))
  placed =
      ap (λ n. bit n t) (mod-eq_of_lt fits)
      ∙ ⊎_elim (λ (e : t / 8 ≡ j). placed_at e ∙ sym (ap (λ c. c && bit b (t % 8)) (eq-eqb (t / 8) j e)))
      (λ (n : t / 8 ≡ j → ⊥).
      ⊎_elim (λ (l : t < 8 * j). placed_below l) (λ (g : 8 * j ≤ t). placed_above (omega arith)) (cases_lt t (8 * j))
      ∙ sym (ap (λ c. c && bit b (t % 8)) (ne_eqb (t / 8) j n)))
      (cases_eq (t / 8) j)

-- after `set[i / 8] |= byte << (8 * (i % 8))`
module _ (ws : List ℕ) (i b r : ℕ) (eight : length ws ≡ 8) (few : b < 2 ^ 8) (i_in : i < 64) where
  byte : ℕ
  byte = b * 2 ^ (8 * (i % 8)) % 2 ^ 64

  same_place : r / 64 ≡ i / 8 → eqb (r % 64 / 8) (i % 8) ≡ eqb (r / 8) i
  same_place e =
      ⊎_elim (λ (p : r / 8 ≡ i). eq-eqb _ _ (omega arith) ∙ sym (eq-eqb _ _ p))
      (λ (n : r / 8 ≡ i → ⊥). ne_eqb _ _ (λ q. n (omega arith)) ∙ sym (ne_eqb _ _ n))
      (cases_eq (r / 8) i)

  pub byte_put : holds (set ws (i / 8) (bit_or (get_or ws (i / 8) 0) (b * 2 ^ (8 * (i % 8)) % 2 ^ 64))) r ≡ (holds ws r || (eqb (r / 8) i && bit b (r % 8)))
  byte_put =
      ⊎_elim (λ (e : r / 64 ≡ i / 8).
      ap (λ k. bit (get_or (set ws (i / 8) (bit_or (get_or ws (i / 8) 0) (b * 2 ^ (8 * (i % 8)) % 2 ^ 64))) k 0) (r % 64)) e
      ∙ ap (λ w. bit w (r % 64)) (get_or-set_same ws (i / 8) (bit_or (get_or ws (i / 8) 0) (b * 2 ^ (8 * (i % 8)) % 2 ^ 64)) 0 (omega (arith, eight)))
      ∙ bit_of_or (get_or ws (i / 8) 0) (b * 2 ^ (8 * (i % 8)) % 2 ^ 64) (r % 64)
      ∙ ap₂ (λ x y. bit (get_or ws x 0) (r % 64) || y) (sym e) (placed b (i % 8) (r % 64) few (omega arith) (omega arith) ∙ ap₂ (λ x y. x && bit b y) (same_place e) (omega arith)))
      (λ (n : r / 64 ≡ i / 8 → ⊥).
      ap (λ w. bit w (r % 64)) (get_or-set_other ws (i / 8) (r / 64) (bit_or (get_or ws (i / 8) 0) (b * 2 ^ (8 * (i % 8)) % 2 ^ 64)) 0 n)
      ∙ sym (ap (λ c. holds ws r || (c && bit b (r % 8))) (ne_eqb (r / 8) i (λ q. n (omega arith))) ∙ or_none (holds ws r)))
      (cases_eq (r / 64) (i / 8))

-- a row in the list of those that the words hold whole; past its end, and where the words end, nothing is held
zeros : (i : ℕ) → get_or {A = ℕ} (replicate 8 0) i 0 ≡ 0
zeros i =
    ⊎_elim (λ (l : i < 8). get_or-replicate 8 i 0 0 l)
    (λ (g : 8 ≤ i). get_or_past (replicate 8 0) i 0 g)
    (cases_lt i 8)

module _ (ws : List ℕ) (r c : ℕ) where
  pub past_empty : length ws / 8 ≤ r → holds (row ws r) c ≡ false
  past_empty g = ap (λ xs. holds xs c) (row_past ws r (omega arith)) ∙ ap (λ w. bit w (c % 64)) (zeros (c / 64)) ∙ bit_zero (c % 64)

  pub beyond_empty : 512 ≤ c → holds (row ws r) c ≡ false
  beyond_empty g = holds_past (row ws r) c (omega (arith, length_row ws r))

  -- of the list of rows
  module _ (rows : List (List ℕ)) (are : rows ≡ first_chunks 8 (length ws / 8) ws) where
    pub holds_listed : r < length ws / 8 → holds (get_or rows r []) c ≡ holds (row ws r) c
    holds_listed l = ap (λ xs. holds (get_or xs r []) c) are ∙ ap (λ xs. holds xs c) (chunk_at ws (length ws / 8) r l ∙ sym (row_within ws r (omega arith)))

  -- of the eights of that list, and of what is left
  module _ (rows : List (List ℕ)) (are : rows ≡ first_chunks 8 (length ws / 8) ws) (many : length rows ≡ length ws / 8) where
    pub holds_in_eight : (eights : List (List (List ℕ))) (i k : ℕ) → eights ≡ first_chunks 8 (length rows / 8) rows → i < length rows / 8 → k < 8 → r ≡ 8 * i + k
        → holds (get_or (get_or eights i []) k []) c ≡ holds (row ws r) c
    holds_in_eight eights i k e l h at =
        ap (λ xs. holds (get_or (get_or xs i []) k []) c) e
        ∙ ap (λ xs. holds (get_or xs k []) c) (chunk_at rows (length rows / 8) i l)
        ∙ ap (λ xs. holds xs c) (get_or-take 8 (drop (8 * i) rows) k [] h ∙ get_or-drop (8 * i) rows k [] ∙ ap (λ j. get_or rows j []) (sym at))
        ∙ holds_listed rows are (omega arith)

    pub holds_in_rest : (rest : List (List ℕ)) (k : ℕ) → rest ≡ drop (length rows / 8 * 8) rows → k < length rows % 8 → r ≡ 8 * (length rows / 8) + k
        → holds (get_or rest k []) c ≡ holds (row ws r) c
    holds_in_rest rest k e h at =
        ap (λ xs. holds (get_or xs k []) c) e
        ∙ ap (λ xs. holds xs c) (get_or-drop (length rows / 8 * 8) rows k [] ∙ ap (λ j. get_or rows j []) (omega arith))
        ∙ holds_listed rows are (omega arith)

-- a number put in, where the words go as far
pub put_any : (xs ys : List ℕ) (n : ℕ) → length xs ≡ 8 → Put n xs ys → (r : ℕ) → r < 512 → holds ys r ≡ (holds xs r || eqb r n)
put_any xs ys n eight p r h =
    ⊎_elim (λ (l : n < 512). p.within (omega (arith, eight)) r)
    (λ (g : 512 ≤ n). ap (λ s. holds s r) (p.past (omega (arith, eight))) ∙ sym (ap (λ q. holds xs r || q) (ne_eqb r n (omega arith)) ∙ or_none (holds xs r)))
    (cases_lt n 512)

-- the rows below n that hold c are in a set, and no others
abbrev pub Filled : List ℕ → ℕ → List ℕ → ℕ → Type 0
Filled ws c set n = (r : ℕ) → r < 512 → holds set r ≡ (ltb r n && holds (row ws r) c)

module _ (ws : List ℕ) (c : ℕ) where
  pub filled_none : Filled ws c (replicate 8 0) 0
  filled_none r h =
      ap (λ w. bit w (r % 64)) (zeros (r / 64)) ∙ bit_zero (r % 64) ∙ sym (ap (λ q. q && holds (row ws r) c) (le-ltb r 0 (omega arith)))

  -- eight rows more
  module _ (set set' : List ℕ) (i b : ℕ) (so : Filled ws c set (8 * i)) (put : (r : ℕ) → r < 512 → holds set' r ≡ (holds set r || (eqb (r / 8) i && bit b (r % 8))))
      (byte : (k : ℕ) → k < 8 → bit b k ≡ holds (row ws (8 * i + k)) c) where
    pub filled_eight : Filled ws c set' (8 * (i + 1))
    filled_eight r h =
        put r h
        ∙ ⊎_elim (λ (e : r / 8 ≡ i).
        let place : 8 * i + r % 8 ≡ r = omega arith in
        ap₂ ◌||◌ (so r h ∙ ap (λ q. q && holds (row ws r) c) (le-ltb r (8 * i) (omega arith)))
        (ap (λ q. q && bit b (r % 8)) (eq-eqb (r / 8) i e) ∙ byte (r % 8) (omega arith) ∙ ap (λ k. holds (row ws k) c) place)
        ∙ sym (ap (λ q. q && holds (row ws r) c) (lt-ltb r (8 * (i + 1)) (omega arith))))
        (λ (n : r / 8 ≡ i → ⊥).
        ap (λ q. holds set r || (q && bit b (r % 8))) (ne_eqb (r / 8) i n)
        ∙ or_none (holds set r)
        ∙ so r h
        ∙ ap (λ q. q && holds (row ws r) c) (⊎_elim (λ (l : r < 8 * i). lt-ltb r (8 * i) l ∙ sym (lt-ltb r (8 * (i + 1)) (omega arith)))
        (λ (g : 8 * i ≤ r). le-ltb r (8 * i) g ∙ sym (le-ltb r (8 * (i + 1)) (omega arith))) (cases_lt r (8 * i))))
        (cases_eq (r / 8) i)

  -- one row more, that holds c or doesn't
  module _ (set : List ℕ) (n : ℕ) (so : Filled ws c set n) where
    step : (r : ℕ) → (r ≡ n → ⊥) → ltb r n ≡ ltb r (n + 1)
    step r apart =
        ⊎_elim (λ (l : r < n). lt-ltb r n l ∙ sym (lt-ltb r (n + 1) (omega arith)))
        (λ (g : n ≤ r). le-ltb r n g ∙ sym (le-ltb r (n + 1) (omega arith)))
        (cases_lt r n)

    pub filled_put : holds (row ws n) c ≡ true → (set' : List ℕ) → ((r : ℕ) → r < 512 → holds set' r ≡ (holds set r || eqb r n)) → Filled ws c set' (n + 1)
    filled_put held set' put r h =
        put r h
        ∙ ⊎_elim (λ (e : r ≡ n).
        ap₂ ◌||◌ (so r h ∙ ap (λ q. q && holds (row ws r) c) (le-ltb r n (omega arith))) (eq-eqb r n e)
        ∙ sym (ap₂ ◌&&◌ (lt-ltb r (n + 1) (omega arith)) (ap (λ k. holds (row ws k) c) e ∙ held)))
        (λ (apart : r ≡ n → ⊥).
        ap (λ q. holds set r || q) (ne_eqb r n apart) ∙ or_none (holds set r) ∙ so r h ∙ ap (λ q. q && holds (row ws r) c) (step r apart))
        (cases_eq r n)

    pub filled_skip : holds (row ws n) c ≡ false → (set' : List ℕ) → set' ≡ set → Filled ws c set' (n + 1)
    filled_skip lacks set' same r h =
        ap (λ s. holds s r) same
        ∙ so r h
        ∙ ⊎_elim (λ (e : r ≡ n).
        ap (λ q. q && holds (row ws r) c) (le-ltb r n (omega arith))
        ∙ sym (ap₂ ◌&&◌ (lt-ltb r (n + 1) (omega arith)) (ap (λ k. holds (row ws k) c) e ∙ lacks)))
        (λ (apart : r ≡ n → ⊥). ap (λ q. q && holds (row ws r) c) (step r apart))
        (cases_eq r n)

    pub filled_all : length ws / 8 ≤ n → (r : ℕ) → r < 512 → holds set r ≡ holds (row ws r) c
    filled_all all r h =
        so r h
        ∙ ⊎_elim (λ (l : r < n). ap (λ q. q && holds (row ws r) c) (lt-ltb r n l))
        (λ (g : n ≤ r). ap (λ q. q && holds (row ws r) c) (le-ltb r n g) ∙ sym (past_empty ws r c (omega arith)))
        (cases_lt r n)

-- What words hold: past their end, after a number is put in or turned, and of two sets word by word.
use Rattle.std.proofs.Common.{MatchBool, ◌≡◌, ℕ, ◌*◌, ◌/◌, ◌%◌, ◌^◌, ◌<◌, ◌≤◌, Bool, true, false, ◌&&◌, ◌||◌, eqb, ◌⊎◌, List, length, get_or, set, sym, refl, ap, ◌∙◌, subst, inl, inr, ⊎_elim, arith, get_or-set_other, get_or-set_same}
use lib.Bits.{bit_xor, bit_and, bit_or}
use mir.Val.{bool_byte}
use Rattle.std.specs.Int.Bits.{xor_zero_r}
use lib.Lanes.{zip2}
use Rattle.std.proofs.lemmas.Simd.{get_or-zip2, length-zip2}
use Rattle.std.proofs.lemmas.List.{get_or_past, set-get_or}
use Rattle.std.proofs.lemmas.Nat.{pow_below}
use Rattle.std.proofs.lemmas.Bool.{cases_eq, cases_lt, both_ways, eq-eqb, ne_eqb}
use Rattle.bits.specs.Sets.{bit, holds, differ, xors, ands, Put, Flipped}
use Rattle.bits.proofs.Word.{bit_of_xor, bit_of_and, bit_of_or, bit_one, bit_zero}

pub differ_none : (b : Bool) → differ b false ≡ b
differ_none true = refl
differ_none false = refl

pub or_none : (b : Bool) → (b || false) ≡ b
or_none true = refl
or_none false = refl

-- nothing past the end
pub holds_past : (ws : List ℕ) (c : ℕ) → length ws ≤ c / 64 → holds ws c ≡ false
holds_past ws c h = ap (λ w. bit w (c % 64)) (get_or_past ws (c / 64) 0 h) ∙ bit_zero (c % 64)

-- what is held lies in the words
pub holds_within : (ws : List ℕ) (c : ℕ) → holds ws c ≡ true → c / 64 < length ws
holds_within ws c h =
    ⊎_elim (λ (l : c / 64 < length ws). l)
    (λ (l : length ws ≤ c / 64). absurd (both_ways _ (holds_past ws c l) h))
    (cases_lt (c / 64) (length ws))

-- the remainder and the quotient fix the number
same_place : (c d : ℕ) → d / 64 ≡ c / 64 → eqb (d % 64) (c % 64) ≡ eqb d c
same_place c d e =
    ⊎_elim (λ (p : d ≡ c). rw p (eq-eqb (c % 64) (c % 64) refl ∙ sym (eq-eqb c c refl)))
    (λ (n : d ≡ c → ⊥). ne_eqb _ _ (λ q. n (omega arith)) ∙ sym (ne_eqb d c n))
    (cases_eq d c)

other_word : (c d : ℕ) → (d / 64 ≡ c / 64 → ⊥) → eqb d c ≡ false
other_word c d n = ne_eqb d c (λ e. n (ap (λ x. x / 64) e))

module _ (ws : List ℕ) (c d : ℕ) (within : c / 64 < length ws) where
  put_cases : (d / 64 ≡ c / 64) ⊎ (d / 64 ≡ c / 64 → ⊥) → holds (set ws (c / 64) (bit_or (get_or ws (c / 64) 0) (2 ^ (c % 64)))) d ≡ (holds ws d || eqb d c)
  put_cases (inl e) =
      let w : ℕ = get_or ws (c / 64) 0 in
      rw (e, get_or-set_same) (bit_of_or w (2 ^ (c % 64)) (d % 64) ∙ ap (λ b. bit w (d % 64) || b) (bit_one (c % 64) (d % 64) ∙ same_place c d e))
  put_cases (inr n) = rw get_or-set_other (sym (ap (λ b. holds ws d || b) (other_word c d n) ∙ or_none (holds ws d)))

  holds_put : holds (set ws (c / 64) (bit_or (get_or ws (c / 64) 0) (2 ^ (c % 64)))) d ≡ (holds ws d || eqb d c)
  holds_put = put_cases (cases_eq (d / 64) (c / 64))

  flip_cases : (d / 64 ≡ c / 64) ⊎ (d / 64 ≡ c / 64 → ⊥) → holds (set ws (c / 64) (bit_xor (get_or ws (c / 64) 0) (2 ^ (c % 64)))) d ≡ differ (holds ws d) (eqb d c)
  flip_cases (inl e) =
      let w : ℕ = get_or ws (c / 64) 0 in
      rw (e, get_or-set_same) (bit_of_xor w (2 ^ (c % 64)) (d % 64) ∙ ap (λ b. differ (bit w (d % 64)) b) (bit_one (c % 64) (d % 64) ∙ same_place c d e))
  flip_cases (inr n) = rw get_or-set_other (sym (ap (λ b. differ (holds ws d) b) (other_word c d n) ∙ differ_none (holds ws d)))

  holds_flipped : holds (set ws (c / 64) (bit_xor (get_or ws (c / 64) 0) (2 ^ (c % 64)))) d ≡ differ (holds ws d) (eqb d c)
  holds_flipped = flip_cases (cases_eq (d / 64) (c / 64))

-- after `words[c / 64] |= 1 << (c % 64)` and `words[c / 64] ^= 1 << (c % 64)`, where there is such a word
module _ (ws : List ℕ) (c : ℕ) (h : c / 64 < length ws) where
  one : 1 * 2 ^ (c % 64) % 2 ^ 64 ≡ 2 ^ (c % 64)
  one = omega (arith, pow_below (c % 64) 64 (omega arith))

  pub put_word : Put c ws (set ws (c / 64) (bit_or (get_or ws (c / 64) 0) (1 * 2 ^ (c % 64) % 2 ^ 64)))
  put_word = rw one (record { within = λ l d. holds_put ws c d l; past = λ l. absurd (omega arith) })

  flipped_word : Flipped c ws (set ws (c / 64) (bit_xor (get_or ws (c / 64) 0) (1 * 2 ^ (c % 64) % 2 ^ 64)))
  flipped_word = rw one (record { within = λ l d. holds_flipped ws c d l; past = λ l. absurd (omega arith) })

  pub flip_if_word : (on : Bool) (b : ℕ) → b ≡ bool_byte on
      → MatchBool on (Flipped c ws (set ws (c / 64) (bit_xor (get_or ws (c / 64) 0) (b * 2 ^ (c % 64) % 2 ^ 64))))
      (set ws (c / 64) (bit_xor (get_or ws (c / 64) 0) (b * 2 ^ (c % 64) % 2 ^ 64)) ≡ ws)
  flip_if_word true b e = subst (λ x. Flipped c ws (set ws (c / 64) (bit_xor (get_or ws (c / 64) 0) (x * 2 ^ (c % 64) % 2 ^ 64)))) (sym e) flipped_word
  flip_if_word false b e =
      let zero : 0 * 2 ^ (c % 64) % 2 ^ 64 ≡ 0 = omega arith in
      let nothing : b * 2 ^ (c % 64) % 2 ^ 64 ≡ 0 = ap (λ x. x * 2 ^ (c % 64) % 2 ^ 64) e ∙ zero in
      ap (λ x. set ws (c / 64) (bit_xor (get_or ws (c / 64) 0) x)) nothing ∙ ap (set ws (c / 64)) (xor_zero_r (get_or ws (c / 64) 0)) ∙ set-get_or ws (c / 64) 0

-- of two sets of as many words
module _ (xs ys : List ℕ) (same : length xs ≡ length ys) (c : ℕ) where
  word_of : (f : ℕ → ℕ → ℕ) → f 0 0 ≡ 0 → (c / 64 < length xs) ⊎ (length xs ≤ c / 64) → get_or (zip2 f xs ys) (c / 64) 0 ≡ f (get_or xs (c / 64) 0) (get_or ys (c / 64) 0)
  word_of f e (inl h) = get_or-zip2 f xs ys (c / 64) 0 0 0 h (omega arith)
  word_of f e (inr h) =
      get_or_past _ (c / 64) 0 (omega (arith, length-zip2 f xs ys same))
      ∙ sym (ap (λ w. f w (get_or ys (c / 64) 0)) (get_or_past xs (c / 64) 0 h) ∙ ap (f 0) (get_or_past ys (c / 64) 0 (omega arith)) ∙ e)

  pub holds_xors : holds (xors xs ys) c ≡ differ (holds xs c) (holds ys c)
  holds_xors = ap (λ w. bit w (c % 64)) (word_of bit_xor refl (cases_lt (c / 64) (length xs))) ∙ bit_of_xor _ _ (c % 64)

  pub holds_ands : holds (ands xs ys) c ≡ (holds xs c && holds ys c)
  holds_ands = ap (λ w. bit w (c % 64)) (word_of bit_and refl (cases_lt (c / 64) (length xs))) ∙ bit_of_and _ _ (c % 64)

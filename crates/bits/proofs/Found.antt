-- What a walk over a set's words finds.
use Rattle.std.proofs.Common.{◌≡◌, ℕ, ◌+◌, ◌-◌, ◌*◌, ◌/◌, ◌%◌, ◌^◌, ◌<◌, ◌≤◌, Bool, true, false, ◌&&◌, leb, ◌⊎◌, List, length, get_or, Some, None, Option, sym, refl, ap, ◌∙◌, subst, ap₂, inl, inr, ⊎_elim, div-one, arith}
use lib.Count.{count_trailing_zeros}
use Rattle.std.proofs.lemmas.Bool.{cases_lt, cases_eq, both_ways, false≢true, eq-eqb, ne_eqb, le-leb, lt-leb, and_from, and_left, and_right}
use Rattle.std.proofs.lemmas.List.{get_or_past}
use Rattle.std.proofs.Math.Nat.{zero-div}
use Rattle.std.specs.Prelude.{not, is_some}
use Rattle.std.specs.Bool.{then_some}
use Rattle.bits.specs.Sets.{bit, differ, holds, Least, Alone, Flipped, from_on}
use Rattle.bits.proofs.Word.{bit_shifted, bit_high, bit_zero, lowest_set, lowest_below}
use Rattle.bits.proofs.Held.{differ_none}

-- tests that agree have one least number
pub least_like : (p q : ℕ → Bool) → ((c : ℕ) → p c ≡ q c) → (r : Option ℕ) → Least q r → Least p r
least_like p q e None l = λ c. e c ∙ l c
least_like p q e (Some c) l = (e c ∙ l.0, λ d h. e d ∙ l.1 d h)

-- from 0 on is everywhere
pub least_of : (p : ℕ → Bool) (r : Option ℕ) → Least (from_on 0 p) r → Least p r
least_of p = least_like p (from_on 0 p) (λ c. sym (ap (λ b. b && p c) (le-leb 0 c (omega arith))))

-- a bound may go down as far as nothing is passed over
module _ (p : ℕ → Bool) (low high : ℕ) (le : low ≤ high) (clear : (c : ℕ) → low ≤ c → c < high → p c ≡ false) where
  same_from : (c : ℕ) → (c < low) ⊎ (low ≤ c) → (c < high) ⊎ (high ≤ c) → from_on low p c ≡ from_on high p c
  same_from c (inl l) h = and_left _ (p c) (lt-leb low c l) ∙ sym (and_left _ (p c) (lt-leb high c (omega arith)))
  same_from c (inr l) (inl h) = and_right (leb low c) _ (clear c l h) ∙ sym (and_right (leb high c) _ (clear c l h))
  same_from c (inr l) (inr h) = ap (λ b. b && p c) (le-leb low c l ∙ sym (le-leb high c h))

  pub least_lower : (r : Option ℕ) → Least (from_on high p) r → Least (from_on low p) r
  least_lower = least_like (from_on low p) (from_on high p) (λ c. same_from c (cases_lt c low) (cases_lt c high))

-- what a bound asks
asked : (p : ℕ → Bool) (low c : ℕ) → low ≤ c → p c ≡ true → from_on low p c ≡ true
asked p low c le h = and_from (leb low c) (p c) (le-leb low c le) h

not_asked : (p : ℕ → Bool) (low c : ℕ) → (low ≤ c → p c ≡ false) → from_on low p c ≡ false
not_asked p low c h =
    ⊎_elim (λ (l : c < low). and_left _ (p c) (lt-leb low c l)) (λ (l : low ≤ c). and_right (leb low c) _ (h l)) (cases_lt c low)

-- words that are 0 hold nothing
pub clear_words : (ws : List ℕ) (i j : ℕ) → ((k : ℕ) → i ≤ k → k < j → get_or ws k 0 ≡ 0) → (c : ℕ) → 64 * i ≤ c → c < 64 * j → holds ws c ≡ false
clear_words ws i j zero c l h = ap (λ w. bit w (c % 64)) (zero (c / 64) (omega arith) (omega arith)) ∙ bit_zero (c % 64)

-- all are 0 from word i on
pub least_none : (ws : List ℕ) (i : ℕ) → ((k : ℕ) → i ≤ k → get_or ws k 0 ≡ 0) → Least (from_on (64 * i) (holds ws)) None
least_none ws i zero c = not_asked (holds ws) (64 * i) c (λ l. ap (λ w. bit w (c % 64)) (zero (c / 64) (omega arith)) ∙ bit_zero (c % 64))

-- from a number on: the rest of its word, shifted down
module _ (ws : List ℕ) (low rest : ℕ) (is : rest ≡ get_or ws (low / 64) 0 / 2 ^ (low % 64)) where
  rest_holds : (j : ℕ) → low % 64 + j < 64 → holds ws (low + j) ≡ bit rest j
  rest_holds j h =
      let q : (low + j) / 64 ≡ low / 64 = omega arith in
      let r : (low + j) % 64 ≡ low % 64 + j = omega arith in
      ap₂ (λ a b. bit (get_or ws a 0) b) q r ∙ sym (ap (λ w. bit w j) is ∙ bit_shifted (get_or ws (low / 64) 0) (low % 64) j)

  -- nothing is left past the end
  pub rest_within : 0 < rest → low / 64 < length ws
  rest_within some =
      ⊎_elim (λ (l : low / 64 < length ws). l)
      (λ (g : length ws ≤ low / 64).
      let left : rest ≡ 0 = is ∙ ap (λ w. w / 2 ^ (low % 64)) (get_or_past ws (low / 64) 0 g) ∙ zero-div (2 ^ (low % 64)) in
      absurd (omega (arith, left, some)))
      (cases_lt (low / 64) (length ws))

  pub clear_rest : rest ≡ 0 → (c : ℕ) → low ≤ c → c < 64 * (low / 64 + 1) → holds ws c ≡ false
  clear_rest none c l h =
      let e : c ≡ low + (c - low) = omega arith in
      ap (holds ws) e ∙ rest_holds (c - low) (omega arith) ∙ ap (λ w. bit w (c - low)) none ∙ bit_zero (c - low)

  module _ (some : 0 < rest) (fits : rest < 2 ^ 64) (word_fits : get_or ws (low / 64) 0 < 2 ^ 64) where
    -- the lowest bit of the rest lies in the word
    pub in_word : low % 64 + count_trailing_zeros 64 rest < 64
    in_word =
        ⊎_elim (λ (l : low % 64 + count_trailing_zeros 64 rest < 64). l)
        (λ (g : 64 ≤ low % 64 + count_trailing_zeros 64 rest).
        absurd (both_ways _ (ap (λ w. bit w (count_trailing_zeros 64 rest)) is ∙ bit_shifted (get_or ws (low / 64) 0) (low % 64) (count_trailing_zeros 64 rest) ∙ bit_high _ 64 _ word_fits g) (lowest_set 64 rest some fits)))
        (cases_lt (low % 64 + count_trailing_zeros 64 rest) 64)

    pub least_rest : Least (from_on low (holds ws)) (Some (low + count_trailing_zeros 64 rest))
    least_rest = (
      asked (holds ws) low (low + count_trailing_zeros 64 rest) (omega arith) (rest_holds _ in_word ∙ lowest_set 64 rest some fits),
      λ d h. not_asked (holds ws) low d (λ l.
          let e : d ≡ low + (d - low) = omega arith in
          let t = in_word in
          ap (holds ws) e ∙ rest_holds (d - low) (omega arith) ∙ lowest_below 64 rest (d - low) (omega arith)),
    )

-- the lowest bit of word i, from its first bit on
pub least_word : (ws : List ℕ) (i w : ℕ) → w ≡ get_or ws i 0 → 0 < w → get_or ws i 0 < 2 ^ 64 → Least (from_on (64 * i) (holds ws)) (Some (64 * i + count_trailing_zeros 64 w))
least_word ws i w is some fits =
    let q : 64 * i / 64 ≡ i = omega arith in
    let r : 64 * i % 64 ≡ 0 = omega arith in
    let rest : get_or ws (64 * i / 64) 0 / 2 ^ (64 * i % 64) ≡ w = ap₂ (λ a b. get_or ws a 0 / 2 ^ b) q r ∙ div-one (get_or ws i 0) ∙ sym is in
    least_rest ws (64 * i) w (sym rest) some (rw is fits) (subst (λ a. get_or ws a 0 < 2 ^ 64) (sym q) fits)

-- c with c taken out leaves d
module _ (xs ys : List ℕ) (c d : ℕ) (within : c / 64 < length xs) (flipped : Flipped c xs ys) (at_c : holds xs c ≡ true) (at_d : holds ys d ≡ true) where
  apart : d ≡ c → ⊥
  apart e = both_ways (holds ys c) (flipped.within within c ∙ ap (differ (holds xs c)) (eq-eqb c c refl) ∙ ap (λ b. differ b true) at_c) (ap (holds ys) (sym e) ∙ at_d)

  also_d : holds xs d ≡ true
  also_d = sym (differ_none (holds xs d)) ∙ ap (differ (holds xs d)) (sym (ne_eqb d c apart)) ∙ sym (flipped.within within d) ∙ at_d

  two_held : Alone (holds xs) None
  two_held k h =
      ⊎_elim (λ (e : k ≡ c). (d, also_d, λ f. apart (f ∙ e)))
      (λ (n : k ≡ c → ⊥). (c, at_c, λ e. n (sym e)))
      (cases_eq k c)

-- c taken out: it is alone where nothing is left
pub alone_left : (xs ys : List ℕ) (c : ℕ) → c / 64 < length xs → Flipped c xs ys → holds xs c ≡ true → (o : Option ℕ) → Least (holds ys) o → (b : Bool) → is_some o ≡ not b → Alone (holds xs) (then_some b c)
alone_left xs ys c within flipped at_c (Some d) l false e = two_held xs ys c d within flipped at_c l.0
alone_left xs ys c within flipped at_c (Some d) l true e = absurd (false≢true (sym e))
alone_left xs ys c within flipped at_c None l false e = absurd (false≢true e)
alone_left xs ys c within flipped at_c None l true e = (
  at_c,
  λ d h. ⊎_elim (λ (q : d ≡ c). q) (λ (n : d ≡ c → ⊥).
      absurd (both_ways (holds ys d) (l d) (flipped.within within d ∙ ap (differ (holds xs d)) (ne_eqb d c n) ∙ differ_none (holds xs d) ∙ h)))
      (cases_eq d c),
)

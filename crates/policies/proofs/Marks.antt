-- A number put into a set, or taken out; the lowest one.
use Rattle.std.proofs.Common.{MatchBool, ◌≡◌, ℕ, zero, suc, ◌+◌, ◌/◌, ◌%◌, ◌<◌, ◌≤◌, min, Bool, true, false, not, ◌&&◌, ◌||◌, eqb, ◌⊎◌, List, [], ◌∷◌, length, get_or, set, replicate, Some, None, Option, sym, refl, ap, ◌∙◌, ap₂, inl, inr, ⊎_elim, arith, length-set, get_or-set_other, get_or-set_same}
use Rattle.std.proofs.lemmas.List.FromFn.{get_or-map-range_with_len, length-map-range_with_len}
use Rattle.std.proofs.lemmas.List.{same_lists, ext_get_or, get_or_past, set_past, get_or-replicate, length-replicate}
use Rattle.std.proofs.lemmas.Bool.{cases_eq, cases_lt, cases_order, eq-eqb, ne_eqb, both_ways, and_left, and_right}
use Rattle.bits.specs.Sets.{holds, differ, bit, ands, Put, Flipped, Least}
use Rattle.bits.proofs.Held.{differ_none, holds_ands}
use Rattle.bits.proofs.Found.{least_like}
use Rattle.bits.proofs.Word.{bit_zero}
use Rattle.method.specs.Sets.{has, meet, lowest, later}
use Rattle.method.proofs.Marks.{has_below, has_meet}
use Rattle.policies.specs.declared.columns.Columns.{Columns}
use Rattle.policies.specs.Shown.{marks_of, shown}

-- the marks of words: how many, and each
pub length_marks : (n : ℕ) (ws : List ℕ) → length (marks_of n ws) ≡ n
length_marks n ws = length-map-range_with_len (holds ws) 0 n

pub marks_at : (n : ℕ) (ws : List ℕ) (c : ℕ) (d : Bool) → c < n → get_or (marks_of n ws) c d ≡ holds ws c
marks_at n ws c d l = get_or-map-range_with_len (holds ws) 0 n c c d l (omega arith)

pub has_marks_of : (n : ℕ) (ws : List ℕ) → ((c : ℕ) → n ≤ c → holds ws c ≡ false) → (c : ℕ) → has (marks_of n ws) c ≡ holds ws c
has_marks_of n ws within c =
    ⊎_elim (λ (l : c < n). marks_at n ws c false l)
    (λ (l : n ≤ c). get_or_past (marks_of n ws) c false (omega (arith, length_marks n ws)) ∙ sym (within c l))
    (cases_lt c n)

-- what is shown of a set: as many marks as its width, and what its words hold
pub length_shown : (s : Columns) → length (shown s) ≡ s.width
length_shown s = length_marks s.width s.words

pub has_shown : (s : Columns) (c : ℕ) → has (shown s) c ≡ holds s.words c
has_shown s c = has_marks_of s.width s.words s.within c

-- from the width on nothing is in the set, and nothing changes
pub has_past : (s : Columns) (c : ℕ) → s.width ≤ c → has (shown s) c ≡ false
has_past s c l = has_shown s c ∙ s.within c l

pub shown_past : (s : Columns) (c : ℕ) (b : Bool) → s.width ≤ c → set (shown s) c b ≡ shown s
shown_past s c b l = set_past (shown s) c b (omega (arith, length_shown s))

-- a number in the set lies below the width
pub shown_below : (s : Columns) (c : ℕ) → has (shown s) c ≡ true → c < s.width
shown_below s c h = omega (arith, has_below (shown s) c h, length_shown s)

-- words that differ from others in c alone, where they hold b
module _ (ws ws' : List ℕ) (c : ℕ) (b : Bool) (here : holds ws' c ≡ b) (other : (d : ℕ) → (d ≡ c → ⊥) → holds ws' d ≡ holds ws d) where
  changed_place : (n k : ℕ) (d : Bool) → k < n → (k ≡ c) ⊎ (k ≡ c → ⊥) → holds ws' k ≡ get_or (set (marks_of n ws) c b) k d
  changed_place n k d l (inl e) =
      ap (holds ws') e ∙ here
      ∙ sym (ap (λ i. get_or (set (marks_of n ws) c b) i d) e ∙ get_or-set_same (marks_of n ws) c b d (omega (arith, length_marks n ws)))
  changed_place n k d l (inr m) = other k m ∙ sym (get_or-set_other (marks_of n ws) c k b d m ∙ marks_at n ws k d l)

  marks_changed : (n : ℕ) → marks_of n ws' ≡ set (marks_of n ws) c b
  marks_changed n =
      same_lists _ _ (length_marks n ws' ∙ sym (length-set (marks_of n ws) c b ∙ length_marks n ws)) (λ k d h.
      let l : k < n = omega (arith, length_marks n ws') in
      marks_at n ws' k d l ∙ changed_place n k d l (cases_eq k c))

-- c taken out of words that hold it
module _ (ws ws' : List ℕ) (c : ℕ) (flipped : (d : ℕ) → holds ws' d ≡ differ (holds ws d) (eqb d c)) where
  out_at : holds ws c ≡ true → holds ws' c ≡ false
  out_at was = flipped c ∙ ap (differ (holds ws c)) (eq-eqb c c refl) ∙ ap (λ b. differ b true) was

  out_other : (d : ℕ) → (d ≡ c → ⊥) → holds ws' d ≡ holds ws d
  out_other d n = flipped d ∙ ap (differ (holds ws d)) (ne_eqb d c n) ∙ differ_none (holds ws d)

or_true : (b : Bool) → (b || true) ≡ true
or_true true = refl
or_true false = refl

or_false : (b : Bool) → (b || false) ≡ b
or_false true = refl
or_false false = refl

-- c put into words
module _ (ws ws' : List ℕ) (c : ℕ) (put : (d : ℕ) → holds ws' d ≡ (holds ws d || eqb d c)) where
  in_at : holds ws' c ≡ true
  in_at = put c ∙ ap (λ b. holds ws c || b) (eq-eqb c c refl) ∙ or_true (holds ws c)

  in_other : (d : ℕ) → (d ≡ c → ⊥) → holds ws' d ≡ holds ws d
  in_other d n = put d ∙ ap (λ b. holds ws d || b) (ne_eqb d c n) ∙ or_false (holds ws d)

-- words of zeros hold nothing
pub get_or_zeros : (n k : ℕ) → get_or {A = ℕ} (replicate n 0) k 0 ≡ 0
get_or_zeros n k =
    ⊎_elim (λ (l : k < n). get_or-replicate {A = ℕ} n k 0 0 l) (λ (l : n ≤ k). get_or_past {X = ℕ} (replicate n 0) k 0 (omega (arith, length-replicate {A = ℕ} n 0)))
    (cases_lt k n)

pub holds_zeros : (n c : ℕ) → holds (replicate n 0) c ≡ false
holds_zeros n c = ap (λ w. bit w (c % 64)) (get_or_zeros n (c / 64)) ∙ bit_zero (c % 64)

pub marks_zeros : (k n : ℕ) → marks_of n (replicate k 0) ≡ replicate n false
marks_zeros k n = same_lists _ _ (length_marks n (replicate k 0) ∙ sym (length-replicate n false)) (λ c d h.
    let l : c < n = omega (arith, length_marks n (replicate k 0)) in
    marks_at n (replicate k 0) c d l ∙ holds_zeros k c ∙ sym (get_or-replicate n c false d l))

-- what two sets share
pub length_meet : (s t : List Bool) → length (meet s t) ≡ min (length s) (length t)
length_meet [] t = omega arith
length_meet (a ∷ s) [] = omega arith
length_meet (a ∷ s) (b ∷ t) = omega (arith, length_meet s t)

module _ (s t : Columns) where
  shared_words : (c : ℕ) → holds (ands s.words t.words) c ≡ (holds s.words c && holds t.words c)
  shared_words c = holds_ands s.words t.words (s.eight ∙ sym t.eight) c

  pub shared_within : (n : ℕ) → n ≡ min s.width t.width → (c : ℕ) → n ≤ c → holds (ands s.words t.words) c ≡ false
  shared_within n e c l =
      shared_words c ∙ ⊎_elim (λ (h : c < s.width). and_right (holds s.words c) (holds t.words c) (t.within c (omega arith)))
      (λ (h : s.width ≤ c). and_left (holds s.words c) (holds t.words c) (s.within c h))
      (cases_lt c s.width)

  pub shown_shared : (n : ℕ) → n ≡ min s.width t.width → marks_of n (ands s.words t.words) ≡ meet (shown s) (shown t)
  shown_shared n e =
      ext_get_or false _ _ (length_marks n (ands s.words t.words) ∙ e ∙ sym (length_meet (shown s) (shown t) ∙ ap₂ min (length_shown s) (length_shown t))) (λ c h.
      marks_at n (ands s.words t.words) c false (omega (arith, length_marks n (ands s.words t.words))) ∙ shared_words c
      ∙ sym (has_meet (shown s) (shown t) c ∙ ap₂ ◌&&◌ (has_shown s c) (has_shown t c)))

-- a list filled from its start with one value
pub all_same : {X : Type 0} (xs : List X) (n : ℕ) (z : X) → length xs ≡ n → ((k : ℕ) → k < n → get_or xs k z ≡ z) → xs ≡ replicate n z
all_same xs n z e h = ext_get_or z xs (replicate n z) (e ∙ sym (length-replicate n z)) (λ k l. h k (omega arith) ∙ sym (get_or-replicate n k z z (omega arith)))

pub all_more : {X : Type 0} (xs : List X) (i : ℕ) (z : X) → i < length xs → ((k : ℕ) → k < i → get_or xs k z ≡ z) → (k : ℕ) → k < i + 1 → get_or (set xs i z) k z ≡ z
all_more xs i z l h k m =
    ⊎_elim (λ (e : k ≡ i). ap (λ j. get_or (set xs i z) j z) e ∙ get_or-set_same xs i z z l) (λ (n : k ≡ i → ⊥). get_or-set_other xs i k z z n ∙ h k (omega arith))
    (cases_eq k i)

-- the lowest mark is the least number marked, and there is one such answer only
module _ (p q : ℕ → Bool) (low : q 0 ≡ false) (up : (c : ℕ) → q (suc c) ≡ p c) where
  later_none : ((c : ℕ) → p c ≡ false) → (c : ℕ) → q c ≡ false
  later_none h zero = low
  later_none h (suc c) = up c ∙ h c

  later_below : (c : ℕ) → ((d : ℕ) → d < c → p d ≡ false) → (d : ℕ) → d < suc c → q d ≡ false
  later_below c h zero l = low
  later_below c h (suc d) l = up d ∙ h d (omega arith)

  least_later : (r : Option ℕ) → Least p r → Least q (later r)
  least_later None h = later_none h
  least_later (Some c) h = (up c ∙ h.0, later_below c h.1)

pub lowest_least : (bs : List Bool) → Least (has bs) (lowest (λ b. b) bs)
lowest_least [] = λ c. refl
lowest_least (true ∷ bs) = (refl, λ d l. absurd (omega arith))
lowest_least (false ∷ bs) = least_later (has bs) (has (false ∷ bs)) refl (λ c. refl) (lowest (λ b. b) bs) (lowest_least bs)

pub least_same : (p : ℕ → Bool) (r s : Option ℕ) → Least p r → Least p s → r ≡ s
least_same p None None h k = refl
least_same p None (Some c) h k = absurd (both_ways (p c) (h c) k.0)
least_same p (Some c) None h k = absurd (both_ways (p c) (k c) h.0)
least_same p (Some c) (Some d) h k =
    ⊎_elim (λ (e : c ≡ d). ap Some e)
    (⊎_elim (λ (l : c < d). absurd (both_ways (p c) (k.1 c l) h.0)) (λ (l : d < c). absurd (both_ways (p d) (h.1 d l) k.0)))
    (cases_order c d)

pub lowest_marked : (n : ℕ) (ws : List ℕ) → ((c : ℕ) → n ≤ c → holds ws c ≡ false) → (r : Option ℕ) → Least (holds ws) r → r ≡ lowest (λ b. b) (marks_of n ws)
lowest_marked n ws within r h =
    least_same (has (marks_of n ws)) r (lowest (λ b. b) (marks_of n ws)) (least_like (has (marks_of n ws)) (holds ws) (has_marks_of n ws within) r h) (lowest_least (marks_of n ws))

-- a number below the width put in, and taken out again or not
module _ (s : Columns) (c : ℕ) (ws ws' : List ℕ) (low : c < s.width) (same : length ws ≡ length s.words) (put : Put c s.words ws) where
  within : c / 64 < length s.words
  within = omega (arith, s.narrow, s.eight)

  pub turned_shown : (on : Bool) → MatchBool (not on) (Flipped c ws ws') (ws' ≡ ws) → marks_of s.width ws' ≡ set (shown s) c on
  turned_shown true e =
      marks_changed s.words ws' c true (ap (λ x. holds x c) e ∙ in_at s.words ws c (put.within within)) (λ d n. ap (λ x. holds x d) e ∙ in_other s.words ws c (put.within within) d n)
      s.width
  turned_shown false f =
      let out = f.within (omega (arith, within)) in
      marks_changed s.words ws' c false (out_at ws ws' c out (in_at s.words ws c (put.within within))) (λ d n. out_other ws ws' c out d n ∙ in_other s.words ws c (put.within within) d n)
      s.width

-- The weights of the columns, counted row by row and column by column.
use Rattle.std.proofs.Common.{◌≡◌, ℕ, zero, suc, ◌+◌, ◌<◌, ◌≤◌, Bool, true, false, ◌&&◌, ◌||◌, eqb, List, [], ◌∷◌, length, set, sym, refl, ap, ◌∙◌, subst, ⊎_elim, add-one, arith, length-set, get_or-set_other, get_or-set_same}
use Rattle.std.proofs.lemmas.Bool.{cases_eq, eq-eqb, ne_eqb, eqb-true}
use Rattle.codes.specs.Matrix.{Matrix, member, holds, Apart}
use Rattle.method.specs.Sets.{has, bump}
use Rattle.method.specs.Choices.{count_to, burdens}
use Rattle.method.proofs.Counts.{num, occ, occ_none}
use Rattle.policies.specs.Numbers.{at}

pub bump_num : (b : Bool) (n : ℕ) → bump b n ≡ n + num b
bump_num true n = omega arith
bump_num false n = omega arith

pub num_most : (b : Bool) → num b ≤ 1
num_most true = omega arith
num_most false = omega arith

-- counting one number further
pub count_more : (t : ℕ → Bool) (n : ℕ) → bump (t n) (count_to t n) ≡ count_to t (n + 1)
count_more t n = sym (ap (count_to t) (add-one n))

pub count_most : (t : ℕ → Bool) (n : ℕ) → count_to t n ≤ n
count_most t zero = omega arith
count_most t (suc n) = omega (arith, bump_num (t n) (count_to t n), num_most (t n), count_most t n)

-- one more at place x
pub at_raised : (s : List ℕ) (x c : ℕ) → x < length s → at (set s x (at s x + 1)) c ≡ bump (eqb x c) (at s c)
at_raised s x c h =
    ⊎_elim
    (λ (e : x ≡ c). subst (λ z. at (set s x (at s x + 1)) z ≡ bump (eqb x z) (at s z)) e (get_or-set_same s x (at s x + 1) 0 h ∙ add-one (at s x) ∙ sym (ap (λ b. bump b (at s x)) (eq-eqb x x refl))))
    (λ (n : x ≡ c → ⊥). get_or-set_other s x c (at s x + 1) 0 (λ e. n (sym e)) ∙ sym (ap (λ b. bump b (at s c)) (ne_eqb x c n)))
    (cases_eq x c)

-- one more column of a row counted
pub tally_more : (s next rest cs : List ℕ) (x : ℕ) → next ≡ set s x (at s x + 1) → length next ≡ 512 → x < 512 → rest ≡ x ∷ cs → (c : ℕ) → at next c + occ c cs ≡ at s c + occ c rest
tally_more s next rest cs x raised long small e c =
    let inside : x < length s = omega (arith, ap length raised, length-set s x (at s x + 1)) in
    omega (arith, ap (λ t. at t c) raised, at_raised s x c inside, bump_num (eqb x c) (at s c), ap (occ c) e)

-- different numbers are listed once or not at all
pub occ_once : (c : ℕ) (xs : List ℕ) → Apart xs → occ c xs ≡ num (member c xs)
occ_once c [] h = refl
occ_once c (x ∷ xs) h = go (eqb x c) refl (occ_once c xs h.1)
  where
    go : (b : Bool) → eqb x c ≡ b → occ c xs ≡ num (member c xs) → num b + occ c xs ≡ num (b || member c xs)
    go true e ih = omega (arith, occ_none c xs (subst (λ z. member z xs ≡ false) (eqb-true x c e) h.0))
    go false e ih = omega (arith, ih)

-- one more row counted, where it is unused
pub weigh_more : (k : Matrix) (u : List Bool) (c r n : ℕ) (b : Bool) → b ≡ has u r → n ≡ count_to (burdens k u c) r → bump (b && holds k r c) n ≡ count_to (burdens k u c) (r + 1)
weigh_more k u c r n b e h = ap (λ t. bump (t && holds k r c) n) e ∙ ap (bump (burdens k u c r)) h ∙ count_more (burdens k u c) r

-- A set built by a loop: each number below n is put in where it passes a test.
use Rattle.std.proofs.Common.{◌≡◌, ℕ, ◌+◌, ◌<◌, ◌≤◌, min, Bool, false, not, List, map, length, take, set, replicate, sym, ap, ◌∙◌, ⊎_elim, arith, length-set, get_or-set_other, get_or-set_same, below_more}
use lib.ListN.{length-map}
use Rattle.std.specs.List.{range_with_len}
use Rattle.std.proofs.lemmas.List.{ext_get_or, get_or-replicate, length-replicate, get_or_past, get_or-take, length-take-le}
use Rattle.std.proofs.lemmas.List.FromFn.{get_or-map-range_with_len, length-map-range_with_len}
use Rattle.std.proofs.lemmas.Bool.{cases_lt}
use Rattle.method.specs.Sets.{has}
use Rattle.method.specs.Method.{missing}
use Rattle.method.proofs.Marks.{has_missing}

has_falses : (n k : ℕ) → has (replicate n false) k ≡ false
has_falses n k =
    ⊎_elim (λ (l : k < n). get_or-replicate n k false false l) (λ (l : n ≤ k). get_or_past (replicate n false) k false (omega (arith, length-replicate n false)))
    (cases_lt k n)

-- the numbers below i are tested
pub record Built (n : ℕ) (t : ℕ → Bool) (s : List Bool) (i : ℕ) : Type 0 where
  pub long : length s ≡ n
  pub done : (k : ℕ) → k < i → has s k ≡ t k
  pub rest : (k : ℕ) → i ≤ k → has s k ≡ false

pub built_none : (n : ℕ) (t : ℕ → Bool) (s : List Bool) → n ≤ 512 → s ≡ replicate (min n 512) false → Built n t s 0
built_none n t s l e =
    let z : s ≡ replicate n false = e ∙ ap (λ k. replicate k false) (omega arith) in
    rw z (record { long = length-replicate n false; done = λ k h. absurd (omega arith); rest = λ k h. has_falses n k })

module _ {n : ℕ} {t : ℕ → Bool} {s : List Bool} {i : ℕ} (so : Built n t s i) where
  pub built_more : i < n → (b : Bool) → t i ≡ b → (s' : List Bool) → s' ≡ set s i b → Built n t s' (i + 1)
  built_more l b e s' z = rw z (record {
    long = length-set s i b ∙ so.long;
    done = below_more (λ k. has (set s i b) k ≡ t k) i
        (λ k h. get_or-set_other s i k b false (omega arith) ∙ so.done k h) (get_or-set_same s i b false (omega (arith, so.long)) ∙ sym e);
    rest = λ k h. get_or-set_other s i k b false (omega arith) ∙ so.rest k (omega arith);
  })

  pub built_all : n ≤ i → s ≡ map t (range_with_len 0 n)
  built_all l =
      ext_get_or false s (map t (range_with_len 0 n)) (so.long ∙ sym (length-map-range_with_len t 0 n))
      (λ k h. so.done k (omega (arith, so.long)) ∙ sym (get_or-map-range_with_len t 0 n k k false (omega (arith, so.long)) (omega arith)))

-- the missing places, by a test of each
abbrev pub lacking : List Bool → ℕ → Bool
lacking received c = not (has received c)

pub lacking_missing : (n : ℕ) (received : List Bool) → n ≤ length received → map (lacking received) (range_with_len 0 n) ≡ missing (take n received)
lacking_missing n received l =
    let e : length (missing (take n received)) ≡ n = length-map (take n received) not ∙ length-take-le n received l in
    ext_get_or false _ _ (length-map-range_with_len (lacking received) 0 n ∙ sym e) (λ c h.
    let lt : c < n = omega (arith, length-map-range_with_len (lacking received) 0 n) in
    get_or-map-range_with_len (lacking received) 0 n c c false lt (omega arith)
    ∙ sym (has_missing (take n received) c (omega (arith, length-take-le n received l)) ∙ ap not (get_or-take n received c false lt)))

-- The numbers of a set taken out one after another, the lowest first.
use Rattle.std.proofs.Common.{◌≡◌, ℕ, ◌+◌, ◌<◌, ◌≤◌, Bool, true, false, ◌≢◌, ◌⊎◌, List, length, Some, None, sym, refl, ap, ◌∙◌, subst, inl, inr, ⊎_elim, arith, get_or-set_other, get_or-set_same}
use Rattle.std.proofs.lemmas.Bool.{cases_eq, cases_lt, both_ways}
use Rattle.bits.specs.Sets.{Least}
use Rattle.method.specs.Sets.{has}
use Rattle.method.proofs.Marks.{has_below}
use Rattle.policies.specs.Shown.{Taken}
use Rattle.policies.proofs.Marks.{lowest_least}

-- what is left of a set whose numbers below n are out
pub record Left (s left : List Bool) (n : ℕ) : Type 0 where
  pub low : n ≤ length s
  pub behind : (c : ℕ) → c < n → has left c ≡ false
  pub ahead : (c : ℕ) → n ≤ c → has left c ≡ has s c

pub left_start : (s : List Bool) → Left s s 0
left_start s = record { low = omega arith; behind = λ c l. absurd (omega arith); ahead = λ c l. refl }

module _ (s left next : List Bool) (n : ℕ) (h : Left s left n) where
  -- c is taken out: it is in the set, none below it is from n on, and all up to it are out
  module _ (c : ℕ) (t : Taken left (Some c) next) where
    least : Least (has left) (Some c)
    least = subst (Least (has left)) (sym t.0) (lowest_least left)

    pub taken_from : n ≤ c
    taken_from = ⊎_elim (λ (l : c < n). absurd (both_ways (has left c) (h.behind c l) least.0)) (λ (l : n ≤ c). l) (cases_lt c n)

    pub taken_in : has s c ≡ true
    taken_in = sym (h.ahead c taken_from) ∙ least.0

    pub taken_below : (d : ℕ) → n ≤ d → d < c → has s d ≡ false
    taken_below d l m = sym (h.ahead d l) ∙ least.1 d m

    still : (d : ℕ) → d ≢ c → has next d ≡ has left d
    still d m = ap (λ u. has u d) t.1 ∙ get_or-set_other left c d false false m

    out : (d : ℕ) → (d ≡ c) ⊎ (d ≡ c → ⊥) → d < c + 1 → has next d ≡ false
    out d (inl e) l = ap (has next) e ∙ ap (λ u. has u c) t.1 ∙ get_or-set_same left c false false (has_below left c least.0)
    out d (inr m) l = still d m ∙ least.1 d (omega arith)

    pub left_more : Left s next (c + 1)
    left_more = record {
      low = omega (arith, has_below s c taken_in);
      behind = λ d l. out d (cases_eq d c) l;
      ahead = λ d l. still d (omega arith) ∙ h.ahead d (omega (arith, taken_from));
    }

  -- nothing is left from n on
  pub left_end : Taken left None next → (c : ℕ) → n ≤ c → has s c ≡ false
  left_end t c l = sym (h.ahead c l) ∙ subst (Least (has left)) (sym t.0) (lowest_least left) c

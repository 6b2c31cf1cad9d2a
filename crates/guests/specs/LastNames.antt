-- The last policy keeps the law of a policy. (Lemmas: nothing here is to be believed.)
--
--   last_names    what it names is active, and it names none only where no column is active
use Rattle.std.specs.Prelude.{◌≡◌, ℕ, zero, suc, ◌<◌, ◌≤◌, Bool, true, false, cond, List, length, Some, None, Option, refl}
use Rattle.std.proofs.Common.{ap, ◌∙◌, ⊎_elim, arith}
use Rattle.std.proofs.lemmas.List.{get_or_past}
use Rattle.std.proofs.lemmas.Bool.{cases_lt}
use Rattle.method.specs.Sets.{has}
use Rattle.method.specs.Choices.{Names}
use Rattle.guests.specs.Lasts.{last_to, last}

-- the same of the columns below n
abbrev NamesTo : List Bool → ℕ → Option ℕ → Type 0
NamesTo a n None = (c : ℕ) → c < n → has a c ≡ false
NamesTo a n (Some c) = has a c ≡ true

last_to_names : (a : List Bool) (n : ℕ) → NamesTo a n (last_to a n)
last_to_names a zero = λ c l. absurd (omega arith)
last_to_names a (suc n) = go (has a n) refl (last_to a n) (last_to_names a n)
  where
    go : (b : Bool) → has a n ≡ b → (o : Option ℕ) → NamesTo a n o → NamesTo a (suc n) (cond b (Some n) o)
    go true e o h = e
    go false e (Some c) h = h
    go false e None h = λ c l. ⊎_elim (λ (m : c < n). h c m) (λ (m : n ≤ c). let z : c ≡ n = omega arith in ap (has a) z ∙ e) (cases_lt c n)

pub last_names : (a : List Bool) → Names a (last a)
last_names a = go (last a) (last_to_names a (length a))
  where
    go : (o : Option ℕ) → NamesTo a (length a) o → Names a o
    go (Some c) h = h
    go None h = λ c. ⊎_elim (λ (l : c < length a). h c l) (λ (l : length a ≤ c). get_or_past a c false l) (cases_lt c (length a))

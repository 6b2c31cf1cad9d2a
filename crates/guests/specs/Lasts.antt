-- What the last policy names.
--
--   last_to, last   the highest active column, of those below n and of all
use Rattle.std.specs.Prelude.{ℕ, zero, suc, Bool, cond, List, length, Some, None, Option}
use Rattle.method.specs.Sets.{has}

abbrev pub last_to : List Bool → ℕ → Option ℕ
last_to a zero = None
last_to a (suc n) = cond (has a n) (Some n) (last_to a n)

abbrev pub last : List Bool → Option ℕ
last a = last_to a (length a)

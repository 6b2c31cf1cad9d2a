-- The number of active columns, where one leaves them.
use Rattle.std.proofs.Common.{◌≡◌, ℕ, zero, suc, ◌<◌, ◌≤◌, Bool, true, false, List, [], ◌∷◌, ◌++◌, length, get_or, set, ap, ◌∙◌, arith}
use Rattle.method.specs.Sets.{has, count}
use Rattle.method.proofs.Counts.{count_clear}

pub fewer_active : (a a' : List Bool) (c : ℕ) → a' ≡ set a c false → has a c ≡ true → suc (count a') ≡ count a
fewer_active a a' c e h = ap (λ s. suc (count s)) e ∙ count_clear a c h

-- no more are active than before
pub clear_le : (s : List Bool) (c : ℕ) → count (set s c false) ≤ count s
clear_le [] c = omega arith
clear_le (true ∷ s) zero = omega arith
clear_le (false ∷ s) zero = omega arith
clear_le (true ∷ s) (suc c) = omega (arith, clear_le s c)
clear_le (false ∷ s) (suc c) = omega (arith, clear_le s c)

-- numbers below a width, and one more
pub below_push : (n : ℕ) (xs : List ℕ) (c : ℕ) → ((i : ℕ) → i < length xs → get_or xs i 0 < n) → c < n → (i : ℕ) → i < length (xs ++ c ∷ []) → get_or (xs ++ c ∷ []) i 0 < n
below_push n [] c h l zero k = l
below_push n [] c h l (suc i) k = absurd (omega arith)
below_push n (x ∷ xs) c h l zero k = h 0 (omega arith)
below_push n (x ∷ xs) c h l (suc i) k = below_push n xs c (λ j m. h (suc j) (omega arith)) l i (omega arith)

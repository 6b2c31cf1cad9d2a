-- Making the missing places of a table zero: the steps of the loop that does it, and what stands there then.
use Rattle.std.proofs.Common.{◌≡◌, ℕ, zero, suc, ◌+◌, ◌<◌, ◌≤◌, Bool, true, false, List, [], ◌∷◌, ◌++◌, length, get_or, take, drop, set, replicate, refl, ap, ◌∙◌, add-one, arith, length-append, length-drop}
use lib.ListN.{length-replicate}
use Rattle.std.proofs.lemmas.List.{take-replicate}
use Rattle.std.proofs.lemmas.Bool.{both_ways}
use Rattle.receiver.specs.Blocks.{zero_missing}

module _ {S : Type 0} (z : S) where
  missing_suc : (rs : List Bool) (xs : List S) (i : ℕ) → i < length rs → get_or rs i false ≡ false → set (zero_missing z (take i rs) xs) i z ≡ zero_missing z (take (suc i) rs) xs
  missing_suc [] xs i h e = absurd (omega arith)
  missing_suc (r ∷ rs) [] zero h e = refl
  missing_suc (r ∷ rs) [] (suc i) h e = refl
  missing_suc (false ∷ rs) (x ∷ xs) zero h e = refl
  missing_suc (true ∷ rs) (x ∷ xs) zero h e = absurd (both_ways true e refl)
  missing_suc (false ∷ rs) (x ∷ xs) (suc i) h e = ap (λ ys. z ∷ ys) (missing_suc rs xs i (omega arith) e)
  missing_suc (true ∷ rs) (x ∷ xs) (suc i) h e = ap (λ ys. x ∷ ys) (missing_suc rs xs i (omega arith) e)

  received_suc : (rs : List Bool) (xs : List S) (i : ℕ) → i < length rs → get_or rs i false ≡ true → zero_missing z (take i rs) xs ≡ zero_missing z (take (suc i) rs) xs
  received_suc [] xs i h e = absurd (omega arith)
  received_suc (r ∷ rs) [] zero h e = refl
  received_suc (r ∷ rs) [] (suc i) h e = refl
  received_suc (false ∷ rs) (x ∷ xs) zero h e = absurd (both_ways false refl e)
  received_suc (true ∷ rs) (x ∷ xs) zero h e = refl
  received_suc (false ∷ rs) (x ∷ xs) (suc i) h e = ap (λ ys. z ∷ ys) (received_suc rs xs i (omega arith) e)
  received_suc (true ∷ rs) (x ∷ xs) (suc i) h e = ap (λ ys. x ∷ ys) (received_suc rs xs i (omega arith) e)

  -- one missing place more is zero
  pub missing_more : (rs : List Bool) (xs : List S) (i : ℕ) → i < length rs → get_or rs i false ≡ false → set (zero_missing z (take i rs) xs) i z ≡ zero_missing z (take (i + 1) rs) xs
  missing_more rs xs i h e = rw add-one (missing_suc rs xs i h e)

  -- one received place more stays
  pub received_more : (rs : List Bool) (xs : List S) (i : ℕ) → i < length rs → get_or rs i false ≡ true → zero_missing z (take i rs) xs ≡ zero_missing z (take (i + 1) rs) xs
  received_more rs xs i h e = rw add-one (received_suc rs xs i h e)

  -- with no place received all become zero
  none_received : (n : ℕ) (xs : List S) → n ≤ length xs → zero_missing z (replicate n false) xs ≡ replicate n z ++ drop n xs
  none_received zero xs h = refl
  none_received (suc n) [] h = absurd (omega arith)
  none_received (suc n) (x ∷ xs) h = ap (λ ys. z ∷ ys) (none_received n xs (omega arith))

  pub all_missing : (n : ℕ) (xs : List S) → n ≤ 512 → n ≤ length xs → zero_missing z (take n (replicate 512 false)) xs ≡ replicate n z ++ drop n xs
  all_missing n xs few fits = ap (λ rs. zero_missing z rs xs) (take-replicate n 512 false few) ∙ none_received n xs fits

  -- a received place keeps its symbol
  pub get_or_zero_missing : (rs : List Bool) (xs : List S) (n p : ℕ) → p < n → get_or rs p false ≡ true → get_or (zero_missing z (take n rs) xs) p z ≡ get_or xs p z
  get_or_zero_missing rs xs zero p lt e = absurd (omega arith)
  get_or_zero_missing [] xs (suc n) p lt e = refl
  get_or_zero_missing (r ∷ rs) [] (suc n) p lt e = refl
  get_or_zero_missing (true ∷ rs) (x ∷ xs) (suc n) zero lt e = refl
  get_or_zero_missing (false ∷ rs) (x ∷ xs) (suc n) zero lt e = absurd (both_ways false refl e)
  get_or_zero_missing (true ∷ rs) (x ∷ xs) (suc n) (suc p) lt e = get_or_zero_missing rs xs n p (omega arith) e
  get_or_zero_missing (false ∷ rs) (x ∷ xs) (suc n) (suc p) lt e = get_or_zero_missing rs xs n p (omega arith) e

  pub length_zero_missing : (rs : List Bool) (xs : List S) → length (zero_missing z rs xs) ≡ length xs
  length_zero_missing [] xs = refl
  length_zero_missing (r ∷ rs) [] = refl
  length_zero_missing (true ∷ rs) (x ∷ xs) = ap suc (length_zero_missing rs xs)
  length_zero_missing (false ∷ rs) (x ∷ xs) = ap suc (length_zero_missing rs xs)

  -- zeros over a whole table, and as many
  pub length_zeroed : (n : ℕ) (xs : List S) → length xs ≡ n → length (replicate n z ++ drop n xs) ≡ n
  length_zeroed n xs e =
      omega (arith, length-append (replicate n z) (drop n xs), length-replicate n z, length-drop n xs, e)

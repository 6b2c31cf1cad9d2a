-- A list whose first elements became zero.
use Rattle.std.proofs.Common.{◌≡◌, ℕ, ◌<◌, ◌≤◌, min, ◌⊎◌, List, ◌++◌, length, get_or, drop, replicate, sym, ap, ◌∙◌, ap₂, inl, inr, append-nil, arith}
use Rattle.std.proofs.lemmas.List.{ext_get_or, get_or-replicate, length-replicate, drop_all}
use Rattle.std.proofs.lemmas.Bool.{cases_lt}
use Rattle.search.specs.Found.{wiped}

-- the first k were written, and k is the smaller of m and the length
pub wiped_front : {X : Type 0} (z : X) (m k : ℕ) (xs front : List X) → k ≡ min m (length xs) → length front ≡ k → ((j : ℕ) → j < length front → get_or front j z ≡ z)
    → front ++ drop k xs ≡ wiped z m xs
wiped_front z m k xs front e l zeros =
    ap₂ ◌++◌
    (ext_get_or z _ _ (l ∙ e ∙ sym (length-replicate (min m (length xs)) z)) (λ j h. zeros j h ∙ sym (get_or-replicate (min m (length xs)) j z z (omega (arith, l, e)))))
    (rest (cases_lt m (length xs)))
  where
    rest : (m < length xs) ⊎ (length xs ≤ m) → drop k xs ≡ drop m xs
    rest (inl h) = ap (λ j. drop j xs) (omega (arith, e))
    rest (inr h) = drop_all k xs (omega (arith, e)) ∙ sym (drop_all m xs h)

-- where there are m elements, as many become zero
pub wiped_some : {X : Type 0} (z : X) (m : ℕ) (xs : List X) → m ≤ length xs → wiped z m xs ≡ replicate m z ++ drop m xs
wiped_some z m xs l = ap (λ k. replicate k z ++ drop m xs) (omega arith)

pub wiped_whole : {X : Type 0} (z : X) (m : ℕ) (xs : List X) → length xs ≡ m → wiped z m xs ≡ replicate m z
wiped_whole z m xs e = wiped_some z m xs (omega arith) ∙ ap (λ ys. replicate m z ++ ys) (drop_all m xs (omega arith)) ∙ append-nil (replicate m z)

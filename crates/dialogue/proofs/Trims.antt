-- Bytes without the zeros at their end: a zero at the end may go, and bytes that end with another stay as they are.
use native.Mathlib.Numerals.{unary_clauses}
use Rattle.std.proofs.Common.{◌≡◌, ◌≢◌, ℕ, ◌-◌, List, [], ◌∷◌, length, take, get_or, ap, refl, arith}
use Rattle.std.proofs.lemmas.Grind.{common_steps}
use Rattle.dialogue.specs.Symbols.{put_before, trimmed}

pub trimmed_zero : (xs : List ℕ) → get_or xs (length xs - 1) 0 ≡ 0 → trimmed (take (length xs - 1) xs) ≡ trimmed xs
trimmed_zero [] last = refl
trimmed_zero (b ∷ []) last = grind (arith, common_steps)
trimmed_zero (b ∷ c ∷ cs) last =
    let before : get_or (c ∷ cs) (length (c ∷ cs) - 1) 0 ≡ 0 = simp unary_clauses (simp unary_clauses at last) in
    let shorter = trimmed_zero (c ∷ cs) before in
    simp unary_clauses (ap (put_before b) (simp unary_clauses at shorter))

pub trimmed_other : (xs : List ℕ) → get_or xs (length xs - 1) 0 ≢ 0 → trimmed xs ≡ xs
trimmed_other [] last = refl
trimmed_other (b ∷ []) last = grind (arith, common_steps)
trimmed_other (b ∷ c ∷ cs) last =
    let before : get_or (c ∷ cs) (length (c ∷ cs) - 1) 0 ≢ 0 = simp unary_clauses (simp unary_clauses at last) in
    ap (put_before b) (trimmed_other (c ∷ cs) before)

-- How `entry_of` answers: none for what is no entry, and else what `parse` reads.
use Rattle.std.proofs.Common.{◌≡◌, ℕ, zero, suc, ◌^◌, ◌<◌, ◌≤◌, true, List, [], ◌∷◌, length, get_or, ℤ, pos, neg_ℤ, None, Ok, Err, IsUtf8, Result, sym, refl, subst, ⊎_elim, arith, w16}
use Rattle.std.specs.Result.{OkIff, result_ok}
use Rattle.std.specs.Str.Parse.{ParsesSigned, digits_value}
use Rattle.std.specs.Str.{all_ascii_digits}
use Rattle.std.proofs.lemmas.Fmt.{IsAscii-from_digits}
use Rattle.std.proofs.lemmas.Str.Parse.{IsNumeralModel, numerals_by_value, tells_all_ascii_digits, parse_signed_plain, parse_signed_minus}
use Rattle.std.proofs.lemmas.Bool.{cases_eq}
use Rattle.std.proofs.lemmas.Str.{IsUtf8-from_ascii}
use Rattle.std.proofs.lemmas.Bool.Decides.{nat_tests}
use Rattle.script.specs.Numbers.{numeral}
use Rattle.script.proofs.Numerals.{numeral_utf8}
use Rattle.piles.specs.Readings.{entry_of}

own : IsNumeralModel (λ ds. all_ascii_digits ds ≡ true) (digits_value 10)
own = numerals_by_value (λ ds. all_ascii_digits ds ≡ true) tells_all_ascii_digits

digits_ascii : (ds : List ℕ) → numeral ds ≡ true → (i : ℕ) → get_or ds i 0 < 128
digits_ascii (d ∷ ds) is = IsAscii-from_digits (d ∷ ds) (own.to (d ∷ ds) is)
digits_ascii [] is = λ i. omega arith

minus_ascii : (ds : List ℕ) → numeral ds ≡ true → (i : ℕ) → get_or (45 ∷ ds) i 0 < 128
minus_ascii ds is zero = omega arith
minus_ascii ds is (suc i) = digits_ascii ds is i

-- what is no text is no entry
not_minus : (c : ℕ) (cs : List ℕ) → (IsUtf8 (c ∷ cs) → ⊥) → c ≡ 45 → numeral cs ≡ true → ⊥
not_minus c cs bad e is = bad (subst (λ b. IsUtf8 (b ∷ cs)) (sym e) (IsUtf8-from_ascii (45 ∷ cs) (minus_ascii cs is)))

pub no_entry : (word : List ℕ) → (IsUtf8 word → ⊥) → entry_of word ≡ None
no_entry [] bad = refl
no_entry (c ∷ cs) bad =
    let minus = not_minus c cs bad in
    let plain : numeral (c ∷ cs) ≡ true → ⊥ = λ is. bad (numeral_utf8 (c ∷ cs) is) in
    grind (arith, nat_tests)

-- a plus sign begins no entry
pub plus_entry : (word : List ℕ) → get_or word 0 0 ≡ 43 → entry_of word ≡ None
plus_entry [] e = refl
plus_entry (c ∷ cs) e = grind (arith, nat_tests)

-- the answer of a `parse`
plain_read : {E : Type 0} (c : ℕ) (cs : List ℕ) (r : Result ℤ E) → (c ≡ 45 → ⊥) → OkIff r ((all_ascii_digits (c ∷ cs) ≡ true) × (0 < length (c ∷ cs)) × (digits_value 10 (c ∷ cs) < 2 ^ 15)) (pos (digits_value 10 (c ∷ cs))) → result_ok r ≡ entry_of (c ∷ cs)
plain_read c cs (Ok x) ne h = grind (arith, nat_tests)
plain_read c cs (Err e) ne h = grind (arith, nat_tests)

minus_read : {E : Type 0} (c : ℕ) (cs : List ℕ) (r : Result ℤ E) → c ≡ 45 → OkIff r ((all_ascii_digits cs ≡ true) × (0 < length cs) × (digits_value 10 cs ≤ 2 ^ 15)) (neg_ℤ (pos (digits_value 10 cs))) → result_ok r ≡ entry_of (c ∷ cs)
minus_read c [] (Ok x) e h = absurd (omega arith)
minus_read c [] (Err d) e h = grind (arith, nat_tests)
minus_read c (b ∷ bs) (Ok x) e h = grind (arith, nat_tests)
minus_read c (b ∷ bs) (Err d) e h = grind (arith, nat_tests)

pub entry_parsed : {E : Type 0} (word : List ℕ) (r : Result ℤ E) → ParsesSigned w16 10 word r → 0 < length word → (get_or word 0 0 ≡ 43 → ⊥) → result_ok r ≡ entry_of word
entry_parsed [] r reads some plus = absurd (omega arith)
entry_parsed (c ∷ cs) r reads some plus =
    ⊎_elim
    (λ (e : c ≡ 45). minus_read c cs r e (parse_signed_minus own w16 (c ∷ cs) r reads e))
    (λ (ne : c ≡ 45 → ⊥). plain_read c cs r ne (parse_signed_plain own w16 (c ∷ cs) r reads plus ne))
    (cases_eq c 45)

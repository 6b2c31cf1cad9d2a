-- How `number_of` answers: none for what is no numeral, and else what `parse` reads.
use Rattle.std.proofs.Common.{◌≡◌, ℕ, ◌^◌, ◌<◌, true, List, [], ◌∷◌, length, get_or, Some, None, Ok, Err, IsUtf8, Result, Bor, refl, arith, rules}
use Rattle.std.specs.Result.{MatchResult}
use Rattle.std.specs.Result.{OkIff, result_ok}
use Rattle.std.specs.Str.Parse.{ParsesUnsigned, digits_value}
use Rattle.std.specs.Str.{all_ascii_digits}
use Rattle.std.proofs.lemmas.Fmt.{IsAscii-from_digits}
use Rattle.std.proofs.lemmas.Str.Parse.{IsNumeralModel, numerals_by_value, tells_all_ascii_digits, parse_plain}
use Rattle.std.proofs.lemmas.Str.{IsUtf8-from_ascii}
use Rattle.std.proofs.lemmas.Bool.Decides.{nat_tests}
use Rattle.script.specs.Numbers.{numeral, number_of}

own : IsNumeralModel (λ ds. all_ascii_digits ds ≡ true) (digits_value 10)
own = numerals_by_value (λ ds. all_ascii_digits ds ≡ true) tells_all_ascii_digits

pub numeral_utf8 : (word : List ℕ) → numeral word ≡ true → IsUtf8 word
numeral_utf8 (c ∷ cs) is = IsUtf8-from_ascii (c ∷ cs) (IsAscii-from_digits (c ∷ cs) (own.to (c ∷ cs) is))
numeral_utf8 [] is = IsUtf8-from_ascii [] (λ i. omega arith)

pub no_numeral : (word : List ℕ) → (numeral word ≡ true → ⊥) → number_of word ≡ None
no_numeral word other = grind (arith, nat_tests)

-- the answer of a `parse` that took digits alone
converted : {E : Type 0} (word : List ℕ) (r : Result ℕ E) → OkIff r ((all_ascii_digits word ≡ true) × (0 < length word) × (digits_value 10 word < 2 ^ 32)) (digits_value 10 word) → result_ok r ≡ number_of word
converted (c ∷ cs) (Ok x) h = grind (arith, nat_tests)
converted (c ∷ cs) (Err e) h = grind (arith, nat_tests)
converted [] (Ok x) h = absurd (omega arith)
converted [] (Err e) h = refl

pub number_parsed : {E : Type 0} (word : List ℕ) (r : Result ℕ E) → ParsesUnsigned 32 10 word r → (get_or word 0 0 ≡ 43 → ⊥) → result_ok r ≡ number_of word
number_parsed word r reads plain = converted word r (parse_plain own 32 word r reads plain)

-- bytes of which `from_utf8` made no text
pub unread : {E : Type 0} (Q : E → Type 0) (word : List ℕ) (r : Result (Bor (List ℕ)) E) → MatchResult r (λ s. (s.now ≡ word) × IsUtf8 word) (λ e. (IsUtf8 word → ⊥) × Q e) → result_ok r ≡ None → IsUtf8 word → ⊥
unread Q word (Ok s) h e is = search (rules, e)
unread Q word (Err x) h e is = h.0 is

-- the text that `from_utf8` made
pub text_read : {E : Type 0} (Q : E → Type 0) (word : List ℕ) (r : Result (Bor (List ℕ)) E) (s : Bor (List ℕ)) → MatchResult r (λ s. (s.now ≡ word) × IsUtf8 word) (λ e. (IsUtf8 word → ⊥) × Q e) → result_ok r ≡ Some s → s.now ≡ word
text_read Q word (Ok t) s h e = search (rules, h.0, e)
text_read Q word (Err x) s h e = search (rules, e)

-- What a search answers.
--
--   meaning       the number and the values of each refusal
--   report_of     the counts of a search's work
--   told          what the method's answer tells
--   causes        the causes that refuse a search before it begins, in their order
use Rattle.std.specs.Prelude.{ℕ, ◌*◌, Bool, not, ◌||◌, List, [], ◌∷◌, Ok, Err, Result, ◌==◌, nat_lt}
use Rattle.refusals.specs.Refusals.{Refusal, refusal, Cause, if_so}
use Rattle.codes.specs.Matrix.{Matrix, height}
use Rattle.method.specs.Method.{Outcome, none, one, several}
use Rattle.search.specs.declared.answer.Report.{Report}
use Rattle.search.specs.declared.answer.Unfound.{Unfound}
use Rattle.search.specs.declared.answer.Unfound.TheVariants.{OtherWidth, ShortMemory, NoCodeword, Several}

abbrev pub meaning : Unfound → Refusal
meaning (OtherWidth n) = refusal 5 (n ∷ [])
meaning (ShortMemory m) = refusal 12 (m ∷ [])
meaning (NoCodeword r) = refusal 13 (r.pivots ∷ r.additions ∷ [])
meaning (Several r k) = refusal 14 (r.pivots ∷ r.additions ∷ k ∷ [])

abbrev pub report_of : ℕ → ℕ → Report
report_of p a = record { pivots = p; additions = a }

abbrev pub told : {S : Type 0} → Outcome S → Result Report Unfound
told (none p a) = Err (NoCodeword (report_of p a))
told (one p a w) = Ok (report_of p a)
told (several p a k) = Err (Several (report_of p a) k)

-- the memory of so many words and symbols is too short for m rows
abbrev pub short : (m words symbols : ℕ) → Bool
short m ws ss = nat_lt ws (8 * m) || nat_lt ss m

abbrev pub causes : Matrix → (table words symbols : ℕ) → List (Cause Unfound)
causes k n ws ss =
    if_so (not (k.width == n)) (OtherWidth k.width)
    ∷ if_so (short (height k) ws ss) (ShortMemory (height k))
    ∷ []

-- Why a code is not made: each cause by its number, with the values that it returns.
--
--   bad_shape, bad_entry   the two causes for which no code is made
--   meaning                the cause that a refusal stands for
--   told                   an answer, its refusal read as its cause
--   judged                 the order of judging: sizes, then the first bad place, then the number of ones
use Rattle.std.specs.Prelude.{ℕ, Bool, true, false, cond, [], ◌∷◌, Some, None, Ok, Err, Option, Result, nat_le}
use Rattle.refusals.specs.Refusals.{refusal}
pub use Rattle.refusals.specs.Refusals.{Refusal as Cause}
use Rattle.codes.specs.declared.refusal.Refusal.{Refusal}
use Rattle.codes.specs.declared.refusal.Refusal.TheVariants.{BadShape, BadEntry}

abbrev pub bad_shape : Cause
bad_shape = refusal 17 []

abbrev pub bad_entry : ℕ → Cause
bad_entry i = refusal 16 (i ∷ [])

abbrev pub meaning : Refusal → Cause
meaning BadShape = bad_shape
meaning (BadEntry i) = bad_entry i

abbrev pub told : {A : Type 0} → Result A Refusal → Result A Cause
told (Ok x) = Ok x
told (Err e) = Err (meaning e)

abbrev pub judged : Bool → Option ℕ → ℕ → Result (Unit {0}) Cause
judged false bad ones = Err bad_shape
judged true (Some i) ones = Err (bad_entry i)
judged true None ones = cond (nat_le ones 4096) (Ok tt) (Err bad_shape)

-- Refusals: a number with the values that it returns, and the first cause that holds.
--
--   Refusal       a number and its values
--   refusal       a refusal, by its number and values
--   value_of      the first of its values, 0 where it has none
--   Cause         what is tested, and what is given where it holds
--   if_so         a cause, by its two parts
--   first_of      what the first cause that holds gives; none where none holds
--   unless        the answer of a call: refused by the first cause that holds, granted where none does
use Rattle.std.specs.Prelude.{ℕ, Bool, cond, List, [], ◌∷◌, Some, None, Ok, Err, Option, Result, slice_index}

pub record Refusal : Type 0 where
  pub number : ℕ
  pub values : List ℕ

abbrev pub refusal : ℕ → List ℕ → Refusal
refusal n vs = record { number = n; values = vs }

abbrev pub value_of : Refusal → ℕ
value_of r = slice_index r.values 0

pub record Cause (F : Type 0) : Type 0 where
  pub holds : Bool
  pub gives : F

abbrev pub if_so : {F : Type 0} → Bool → F → Cause F
if_so b f = record { holds = b; gives = f }

abbrev pub first_of : {F : Type 0} → List (Cause F) → Option F
first_of [] = None
first_of (c ∷ cs) = cond c.holds (Some c.gives) (first_of cs)

abbrev pub unless : {F X : Type 0} → List (Cause F) → X → Result X F
unless [] granted = Ok granted
unless (c ∷ cs) granted = cond c.holds (Err c.gives) (unless cs granted)

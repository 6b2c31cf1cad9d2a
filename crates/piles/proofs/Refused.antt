-- What a refusal tells of a row.
use Rattle.std.proofs.Common.{◌≡◌, ℕ, Ok, Err, Result, refl}
use Rattle.codes.specs.Matrix.{Matrix}
use Rattle.codes.specs.Refusals.{Cause}
use Rattle.codes.specs.declared.refusal.Refusal.{Refusal}
use Rattle.piles.specs.Answers.{row_of_code, no_code}
use Rattle.piles.specs.Piles.{Told}

-- where no row is told, the pile gives no code
pub no_row : {O : Type 0} (P : Matrix → O → Type 0) (r : ℕ) (m : Result Matrix Cause) (e : Refusal) → Told P m (Err e) → no_code ≡ row_of_code r m
no_row P r (Ok k) e h = absurd h
no_row P r (Err c) e h = refl

-- The lines that answer calls about a code.
--
--   code_text      the line that tells whether a code is made, with its sizes or the cause
--   no_code        the line that tells of no code in hand
--   row_of_code, row_text    the line that tells row r of the code in hand
use Rattle.std.specs.Prelude.{ℕ, List, [], ◌∷◌, ◌++◌, Some, None, Ok, Err, codes, Option, Result}
use Rattle.codes.specs.Matrix.{Matrix, row_at}
use Rattle.codes.specs.Refusals.{Cause}
use Rattle.codes.specs.declared.shape.Shape.{Shape}
use Rattle.script.specs.Answers.{values_text}
use Rattle.piles.specs.Piles.{pile_code}
use Rattle.piles.specs.declared.pile.Pile.{Pile}

abbrev pub code_text : Result Shape Cause → List ℕ
code_text (Ok s) = codes "code granted" ++ values_text (s.rows ∷ s.columns ∷ s.ones ∷ [])
code_text (Err c) = codes "code refused" ++ values_text (c.number ∷ c.values)

abbrev pub no_code : List ℕ
no_code = codes "row no code in hand"

abbrev pub row_of_code : ℕ → Result Matrix Cause → List ℕ
row_of_code r (Ok k) = codes "row" ++ values_text (row_at k r)
row_of_code r (Err c) = no_code

abbrev pub row_text : ℕ → Option Pile → List ℕ
row_text r None = no_code
row_text r (Some pile) = row_of_code r (pile_code pile)

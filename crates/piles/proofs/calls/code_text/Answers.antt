use Rattle.std.proofs.Common.{◌≡◌, ℕ, ◌++◌, Ok, Err, codes, decimal, append-nil, rules}
use Rattle.codes.specs.Refusals.{bad_shape, bad_entry}
use Rattle.codes.specs.declared.shape.Shape.{Shape}
use Rattle.piles.specs.Answers.{code_text}
use Rattle.piles.proofs.calls.code_text.Goals as goal

granted : (s : Shape) → code_text (Ok s) ≡ codes "code granted " ++ (decimal s.rows ++ (codes " " ++ (decimal s.columns ++ (codes " " ++ decimal s.ones))))
granted s = simp append-nil

shape_refused : code_text (Err bad_shape) ≡ codes "code refused " ++ decimal 17
shape_refused = simp append-nil

entry_refused : (i : ℕ) → code_text (Err (bad_entry i)) ≡ codes "code refused " ++ (decimal 16 ++ (codes " " ++ decimal i))
entry_refused i = simp append-nil

pub returns-in-Ok : goal.returns-in-Ok
returns-in-Ok c = search (rules, granted c.in-Ok.shape)

pub returns-in-BadShape : goal.returns-in-BadShape
returns-in-BadShape c = search (rules, shape_refused)

pub returns-in-BadEntry : goal.returns-in-BadEntry
returns-in-BadEntry c = search (rules, entry_refused c.in-BadEntry.place)

use Rattle.std.proofs.Common.{◌≡◌, ◌++◌, codes, drop, string_bytes}
use Rattle.script.specs.Answers.{values_text}
use Rattle.piles.proofs.calls.columns_text.Given as goal

abbrev pub invariant-loop-column : goal.invariant-loop-column
invariant-loop-column l = string_bytes l.text ++ values_text (drop l.column-index l.columns) ≡ codes "row" ++ values_text l.columns

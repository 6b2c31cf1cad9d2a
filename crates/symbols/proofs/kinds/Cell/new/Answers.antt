use Rattle.std.proofs.Common.{sym, rules}
use Rattle.symbols.specs.CellLaws.{same_cell, fitted_is}
use Rattle.symbols.proofs.kinds.Cell.new.Goals as goal

pub returns-clause-value : goal.returns-clause-value
returns-clause-value c = same_cell _ _ (sym (fitted_is c.args.bytes (search rules)))

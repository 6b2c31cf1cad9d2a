use Rattle.std.proofs.Common.{rules}
use Rattle.guests.proofs.Questions.{no_row, first_row}
use Rattle.guests.proofs.parity.ParityRows.column.Goals as goal

pub returns : goal.returns
returns c = let n = c.args.self.now.n in search (rules, no_row n c.args.r, first_row n c.args.i)

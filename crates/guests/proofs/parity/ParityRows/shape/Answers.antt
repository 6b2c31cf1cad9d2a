use Rattle.std.proofs.Common.{rules}
use Rattle.guests.proofs.Questions.{parity_ones}
use Rattle.guests.proofs.parity.ParityRows.shape.Goals as goal

pub returns : goal.returns
returns c = search (rules, parity_ones c.args.self.now.n)

use Rattle.std.proofs.Common.{rules}
use Rattle.receiver.proofs.Law.{goes_on}
use Rattle.receiver.proofs.block.Block.receive.Goals as goal

pub returns-clause-history : goal.returns-clause-history
returns-clause-history g c = goes_on g.S.Symbol.kind _ _ _ c.args.self.now.marks.few (search rules)

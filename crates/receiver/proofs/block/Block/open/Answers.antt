use Rattle.std.proofs.Common.{rules}
use Rattle.receiver.proofs.Law.{opens}
use Rattle.receiver.proofs.block.Block.open.Goals as goal

pub returns-clause-history : goal.returns-clause-history
returns-clause-history g c = opens g.S.Symbol.kind _ _ c.args.table.now _ (search rules)

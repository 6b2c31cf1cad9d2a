use Rattle.method.proofs.Peeling.{pivots_tell}
use Rattle.method.proofs.pivots_tell.Goals as goal

pub returns : goal.returns
returns g c = pivots_tell g.met.S.Symbol.lawful

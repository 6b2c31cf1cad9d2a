use Rattle.method.proofs.Doubling.{doubles}
use Rattle.method.proofs.doubles.Goals as goal

pub returns : goal.returns
returns g c = doubles g.met.S.Symbol.lawful

use Rattle.method.proofs.Tells.{tells_exactly}
use Rattle.method.proofs.tells_exactly.Goals as goal

pub returns : goal.returns
returns g c = tells_exactly g.met.S.Symbol.lawful

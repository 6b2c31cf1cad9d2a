use Rattle.method.proofs.Peeling.{named_in_turn}
use Rattle.method.proofs.named_in_turn.Goals as goal

pub returns : goal.returns
returns g c = named_in_turn g.met.S.Symbol.lawful

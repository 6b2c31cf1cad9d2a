use Rattle.method.proofs.Tells.{final_state}
use Rattle.method.proofs.final_state.Goals as goal

pub returns : goal.returns
returns g c = final_state g.met.S.Symbol.lawful

use Rattle.method.proofs.Shortfall.{policy_alters_no_answer}
use Rattle.method.proofs.policy_alters_no_answer.Goals as goal

pub returns : goal.returns
returns g c = policy_alters_no_answer g.met.S.Symbol.lawful

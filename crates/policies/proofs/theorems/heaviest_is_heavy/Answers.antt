use Rattle.policies.proofs.Leading.{heavy}
use Rattle.policies.proofs.theorems.heaviest_is_heavy.Goals as goal

pub returns : goal.returns
returns c = heavy

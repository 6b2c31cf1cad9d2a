use Rattle.method.proofs.Tops.{policies_name}
use Rattle.method.proofs.policies_name.Goals as goal

pub returns : goal.returns
returns g c = policies_name _

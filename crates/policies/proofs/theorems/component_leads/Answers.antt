use Rattle.policies.proofs.Leading.{component_leads}
use Rattle.policies.proofs.theorems.component_leads.Goals as goal

pub returns : goal.returns
returns g c = component_leads _

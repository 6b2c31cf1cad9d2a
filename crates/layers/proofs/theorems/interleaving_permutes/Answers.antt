use Rattle.layers.proofs.Orders.{interleaving}
use Rattle.layers.proofs.theorems.interleaving_permutes.Goals as goal

pub returns : goal.returns
returns c = interleaving

use Rattle.layers.proofs.Words as words
use Rattle.layers.proofs.theorems.stacked_codewords.Goals as goal

pub returns : goal.returns
returns g c = words.stacked_codewords g.S.Symbol.kind

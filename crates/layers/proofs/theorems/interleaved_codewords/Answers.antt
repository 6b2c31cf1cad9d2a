use Rattle.layers.proofs.Words as words
use Rattle.layers.proofs.theorems.interleaved_codewords.Goals as goal

pub returns : goal.returns
returns g c = words.interleaved_codewords g.S.Symbol.kind

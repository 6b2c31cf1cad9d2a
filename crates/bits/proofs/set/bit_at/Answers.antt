use Rattle.bits.proofs.Word.{bit_tested}
use Rattle.bits.proofs.set.bit_at.Goals as goal

pub returns : goal.returns
returns c = bit_tested c.args.word c.args.k

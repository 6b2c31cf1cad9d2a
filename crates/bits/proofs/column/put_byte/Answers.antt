use Rattle.bits.proofs.Eights.{byte_put}
use Rattle.bits.proofs.column.put_byte.Goals as goal

pub returns-then-i-lt64 : goal.returns-then-i-lt64
returns-then-i-lt64 c r h = byte_put c.args.set.now c.args.i c.args.byte r c.told-set c.requires c.if-i-lt64.true

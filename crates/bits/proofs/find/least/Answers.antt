use Rattle.bits.specs.Sets.{holds}
use Rattle.bits.proofs.Found.{least_of}
use Rattle.bits.proofs.find.least.Goals as goal

pub returns : goal.returns
returns c = least_of (holds c.args.set.now) c.least_from.result c.least_from.ensures

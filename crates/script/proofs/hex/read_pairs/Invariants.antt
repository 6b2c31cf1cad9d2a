use Rattle.std.proofs.Common.{◌≡◌, length, vec_items}
use Rattle.script.specs.Hex.{pairs_of}
use Rattle.script.proofs.Hexes.{after}
use Rattle.script.proofs.hex.read_pairs.Given as goal

abbrev pub invariant-loop-rest : goal.invariant-loop-rest
invariant-loop-rest l = after (vec_items l.bytes) (pairs_of l.rest) ≡ pairs_of l.digits

abbrev pub decreases-loop-rest : goal.decreases-loop-rest
decreases-loop-rest l = length l.rest

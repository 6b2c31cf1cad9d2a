use Rattle.std.proofs.Common.{◌≡◌, length}
use Rattle.dialogue.specs.Symbols.{trimmed}
use Rattle.dialogue.proofs.spelled.trimmed.Given as goal

abbrev pub invariant-loop-rest : goal.invariant-loop-rest
invariant-loop-rest l = trimmed l.rest ≡ trimmed l.fn.bytes

abbrev pub decreases-loop-rest : goal.decreases-loop-rest
decreases-loop-rest l = length l.rest

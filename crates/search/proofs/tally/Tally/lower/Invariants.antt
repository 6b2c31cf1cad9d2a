use Rattle.policies.specs.Shown.{shown}
use Rattle.search.proofs.Lowering.{Lowering}
use Rattle.search.proofs.tally.Tally.lower.Given as goal

abbrev pub invariant-loop-q : goal.invariant-loop-q
invariant-loop-q l = Lowering (shown l.held) (shown l.unused) (shown l.q-iterator.left) l.initial.self l.self

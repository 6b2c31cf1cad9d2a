use Rattle.policies.specs.Shown.{shown}
use Rattle.policies.proofs.Sizes.{Sized}
use Rattle.policies.proofs.forest.Forest.sizes.Given as goal

abbrev pub invariant-loop-c : goal.invariant-loop-c
invariant-loop-c l = Sized (shown l.active) l.initial.self.up l.self.up l.sizes l.c

use Rattle.search.specs.Places.{Placed}
use Rattle.search.proofs.read.places.Given as goal

abbrev pub invariant-loop-r : goal.invariant-loop-r
invariant-loop-r l = Placed l.uses l.r l.m l.rows

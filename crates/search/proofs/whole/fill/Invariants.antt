use Rattle.search.proofs.Filling.{Filling}
use Rattle.search.specs.Found.{symbol_at}
use Rattle.search.proofs.whole.fill.Given as goal

abbrev pub invariant-loop-c : goal.invariant-loop-c
invariant-loop-c g l =
    let K = g.S.Symbol.kind in
    Filling K.zero l.received (symbol_at K l.found l.sides) l.initial.table l.table l.c

use Rattle.std.proofs.Common.{◌≡◌, drop}
use Rattle.symbols.specs.Sums.{sum_at}
use Rattle.symbols.proofs.sums.sum_at.Given as goal

abbrev pub invariant-loop-c : goal.invariant-loop-c
invariant-loop-c g l = let K = g.S.Symbol.kind in K.sum l.sum (sum_at K.zero K.sum l.table (drop l.c-index l.columns)) ≡ sum_at K.zero K.sum l.table l.columns

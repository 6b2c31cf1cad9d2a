use Rattle.std.proofs.Common.{◌≡◌, ℕ, ◌+◌}
use Rattle.codes.specs.Matrix.{row_at}
use Rattle.codes.specs.RowsRead.{columns_left}
use Rattle.method.proofs.Counts.{occ}
use Rattle.policies.specs.Numbers.{at}
use Rattle.policies.proofs.heaviest.tally.Given as goal

abbrev pub invariant-loop-c : goal.invariant-loop-c
invariant-loop-c g l =
    let row = row_at (g.C.Rows.matrix l.code) l.r in
    (c : ℕ) → at l.counts c + occ c (columns_left g.C.Rows.matrix l.c-iterator) ≡ at l.initial.counts c + occ c row

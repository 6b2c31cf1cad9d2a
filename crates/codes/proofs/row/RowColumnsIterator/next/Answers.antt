use Rattle.std.proofs.Common.{rules, arith}
use Rattle.codes.specs.Matrix.{row_at}
use Rattle.codes.proofs.RowsRead.{rest_some, place_small}
use Rattle.codes.proofs.row.RowColumnsIterator.next.Goals as goal

pub overflow_add-self : goal.overflow_add-self
overflow_add-self g c =
    let s = c.args.self.now in
    omega (arith, place_small (g.C.Rows.matrix s.code.now) (g.C.Rows.lawful s.code.now) s.r s.next c.in_ok-c.c c.in_ok-c.ensures)

pub returns-clause-steps : goal.returns-clause-steps
returns-clause-steps g c =
    let s = c.args.self.now in
    rest_some (row_at (g.C.Rows.matrix s.code.now) s.r) s.next c.in_ok-c.c c.in_ok-c.ensures

pub returns-clause-goes : goal.returns-clause-goes
returns-clause-goes g c =
    let s = c.args.self.now in
    let e = rest_some (row_at (g.C.Rows.matrix s.code.now) s.r) s.next c.in_ok-c.c c.in_ok-c.ensures in
    search (rules, e)

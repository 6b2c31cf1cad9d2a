use Rattle.std.proofs.Common.{◌≡◌, ◌*◌, sym, ap, ◌∙◌, arith}
use Rattle.std.proofs.lemmas.List.{length-take-le}
use Rattle.codes.specs.Matrix.{height}
use Rattle.search.proofs.Memory.{looked}
use Rattle.search.proofs.whole.look.Goals as goal

pub returns : goal.returns
returns g c =
    let K = g.S.Symbol.kind in
    let k = g.C.Rows.matrix c.args.code.now in
    let m = c.shape-shape.result.rows in
    let ws = c.args.words.now in
    let ss = c.args.sides.now in
    let rows : m ≡ height k = ap (λ s. s.rows) c.shape-shape.ensures in
    let columns = ap (λ s. s.columns) c.shape-shape.ensures in
    looked K g.P.Policy.choice k c.args.received.now c.args.table.now c.args.policy.now c.run.new.policy ws c.run.new.words ss c.run.new.sides
    (8 * m) m c.run.result (sym columns ∙ c.if-shape-table.false) (omega (arith, rows)) (omega (arith, rows)) (ap (λ j. 8 * j) rows) rows (c.run.auto.sides ∙ length-take-le m ss (omega arith)) c.run.ensures

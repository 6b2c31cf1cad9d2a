use Rattle.std.proofs.Common.{rules, eqb, ◌∙◌}
use borrow.Author.Tests.{tests}
use Rattle.std.proofs.lemmas.Iterator.Consumers.{YieldsList-from_first}
use Rattle.std.proofs.lemmas.Iterator.Search.{any_from_yields_List}
use Rattle.codes.specs.Matrix.{row_at}
use Rattle.codes.specs.RowsRead.{columns_left}
use Rattle.codes.proofs.Members.{member_any}
use Rattle.codes.proofs.membership.scan.Goals as goal

pub returns : goal.returns
returns g c =
    let m = g.C.Rows.matrix in
    let row = row_at (m c.args.code.now) c.args.r in
    any_from_yields_List (λ k. eqb k c.args.c) c.any.new.self _ _ c.any.ensures.ran (YieldsList-from_first (λ x. x) (columns_left m) row c.row-columns.ensures) (λ x b q k. search (rules, tests))
    ∙ member_any c.args.c row

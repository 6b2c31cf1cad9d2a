use Rattle.std.proofs.Common.{rules, sym, ◌∙◌}
use borrow.Author.Tests.{tests}
use Rattle.codes.specs.Matrix.{row_at}
use Rattle.policies.specs.Shown.{shown}
use Rattle.policies.proofs.Firsts.{row_marked, pair_of_none, pair_of_one, pair_of_two}
use Rattle.policies.proofs.pairs.pair_of.Goals as goal

pub returns-in_err-x : goal.returns-in_err-x
returns-in_err-x g c =
    let row = row_at (g.C.Rows.matrix c.args.code.now) c.args.r in
    c.from_residual.ensures
    ∙ sym (pair_of_none _ _ c.filter-columns.result c.next.new.self c.in_err-x.ensures.steps
    (row_marked g.C.Rows.matrix (shown c.args.active.now) row c.row.ensures c.filter-columns.ensures.source c.filter-columns.ensures.closure (λ x b q k. search (rules, tests))))

pub returns-in_err-y : goal.returns-in_err-y
returns-in_err-y g c =
    let row = row_at (g.C.Rows.matrix c.args.code.now) c.args.r in
    c.from_residual-in_err-y.ensures
    ∙ sym (pair_of_one _ _ c.filter-columns.result c.next.new.self c.in_ok-x.x c.in_ok-x.ensures.steps c.next-2.new.self c.in_err-y.ensures.steps
    (row_marked g.C.Rows.matrix (shown c.args.active.now) row c.row.ensures c.filter-columns.ensures.source c.filter-columns.ensures.closure (λ x b q k. search (rules, tests))))

pub returns : goal.returns
returns g c =
    let row = row_at (g.C.Rows.matrix c.args.code.now) c.args.r in
    let pair =
    pair_of_two _ _ c.filter-columns.result c.next.new.self c.in_ok-x.x c.in_ok-x.ensures.steps c.next-2.new.self c.in_ok-y.y c.next-3.new.self c.in_ok-y.ensures.steps c.next-3.result c.next-3.ensures.steps c.is_none.result c.is_none.ensures
    (row_marked g.C.Rows.matrix (shown c.args.active.now) row c.row.ensures c.filter-columns.ensures.source c.filter-columns.ensures.closure (λ x b q k. search (rules, tests))) in
    search (rules, tests, c.then_some.ensures, pair)

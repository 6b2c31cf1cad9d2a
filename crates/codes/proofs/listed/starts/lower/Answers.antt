use Rattle.std.proofs.Common.{rules, ltb, ◌∙◌}
use borrow.Author.Tests.{tests}
use Rattle.std.proofs.lemmas.Iterator.{YieldsList-from_slice}
use Rattle.std.proofs.lemmas.Iterator.Consumers.{count_from_yields_List}
use Rattle.std.proofs.lemmas.Iterator.Search.{YieldsList-from_take_while}
use Rattle.codes.specs.declared.record.Record.{Record}
use Rattle.codes.proofs.Starts.{lower_prefix}
use Rattle.codes.proofs.listed.starts.lower.Goals as goal

pub returns : goal.returns
returns c =
    let rs = c.args.records.now in
    count_from_yields_List c.take_while.result _ c.count.ensures.ran (YieldsList-from_take_while _ (λ (k : Record). ltb k.row c.args.r) (YieldsList-from_slice rs cc) c.take_while.ensures.closure c.take_while.ensures.done (λ x b q k. search (rules, tests)))
    ∙ lower_prefix rs c.args.r

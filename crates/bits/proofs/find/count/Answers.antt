use Rattle.std.proofs.Common.{◌∙◌, rules, tests, arith}
use lib.Count.{ones}
use Rattle.std.proofs.lemmas.Iterator.{YieldsList-from_slice, YieldsList-from_map}
use Rattle.std.proofs.lemmas.Iterator.Consumers.{sum_by_from_yields_List, fits_by_from_yields_list}
use Rattle.bits.proofs.Ones.{ones_all, ones_few}
use Rattle.bits.proofs.find.count.Goals as goal

pub sum-requires-clause-fits : goal.sum-requires-clause-fits
sum-requires-clause-fits c =
    let ws = c.args.set.now in
    fits_by_from_yields_list ones ws c.map.result _ (YieldsList-from_map _ ones (YieldsList-from_slice ws cc) c.map.ensures.closure (λ x r q k. search (rules, tests))) (omega (arith, ones_few ws (λ i. omega arith)))

pub returns : goal.returns
returns c =
    let ws = c.args.set.now in
    let counted =
    sum_by_from_yields_List ones ws c.map.result _ c.sum.ensures.ran (YieldsList-from_map _ ones (YieldsList-from_slice ws cc) c.map.ensures.closure (λ x r q k. search (rules, tests)))
    ∙ ones_all ws (λ i. omega arith) in
    omega (arith, counted)

use Rattle.std.proofs.Common.{take, cond, rules, tests, arith}
use Rattle.std.proofs.lemmas.List.Sums.{count_by-le-length}
use Rattle.std.proofs.lemmas.Iterator.{YieldsList-from_slice, YieldsList-from_map}
use Rattle.std.proofs.lemmas.Iterator.Consumers.{fits_by_from_yields_list}
use Rattle.receiver.proofs.block.Block.count_received.Goals as goal

pub sum-requires-clause-fits : goal.sum-requires-clause-fits
sum-requires-clause-fits g c =
    let marks = c.args.self.now.marks in
    let gots = take marks.n marks.received in
    fits_by_from_yields_list (λ b. cond b 1 0) gots c.map.result _ (YieldsList-from_map _ (λ b. cond b 1 0) (YieldsList-from_slice gots cc) c.map.ensures.closure (λ x r q k. search (rules, tests))) (omega (arith, count_by-le-length (λ b. b) gots, marks.few, marks.flags))

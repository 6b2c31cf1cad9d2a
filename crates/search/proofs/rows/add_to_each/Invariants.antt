use Rattle.policies.specs.Shown.{shown}
use Rattle.search.proofs.Added.{Adding}
use Rattle.search.proofs.rows.add_to_each.Given as goal

abbrev pub invariant-loop-q : goal.invariant-loop-q
invariant-loop-q g l =
    Adding g.S.Symbol.kind.sum (shown l.others) (shown l.q-iterator.left) l.line l.side l.initial.words l.words l.initial.sides l.sides l.count

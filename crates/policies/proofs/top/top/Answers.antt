use Rattle.std.proofs.Common.{rules, sym, ap, arith}
use borrow.Author.Tests.{tests}
use Rattle.policies.specs.Numbers.{at}
use Rattle.policies.specs.Shown.{shown}
use Rattle.policies.proofs.Marks.{length_shown}
use Rattle.policies.proofs.Folded.{callable, folded}
use Rattle.policies.proofs.top.top.Goals as goal

pub fold-requires-clause-callable : goal.fold-requires-clause-callable
fold-requires-clause-callable c =
    let s = c.args.active.now in
    callable _ _ (at c.args.weights.now) (shown s) (λ o c r q k. search (rules, tests)) 512 (omega (arith, length_shown s, s.narrow)) (λ c l. search (rules, tests)) (λ b c l m. search (rules, tests)) _ (ap (λ n. record { start = 0; end = n }) (sym (length_shown s)))

pub returns : goal.returns
returns c =
    let s = c.args.active.now in
    folded _ _ (at c.args.weights.now) (shown s) (λ o c r q k. search (rules, tests)) _ (ap (λ n. record { start = 0; end = n }) (sym (length_shown s))) c.fold.result c.fold.ensures.ran

use Rattle.std.proofs.Common.{sym}
use Rattle.days.proofs.Obeying.{received, renewed, shown, not_shown, shut, not_shut}
use Rattle.days.proofs.obey.obey.Goals as goal

pub returns-in-Receive-clause-obeyed : goal.returns-in-Receive-clause-obeyed
returns-in-Receive-clause-obeyed g c =
    rw c.in-Receive.is (received g.S.Symbol.kind g.P.Policy.choice _ _ _ _ _ _ _ _ _ _ _ c.args.desk.now.held c.receive.ensures.step c.receive.ensures.history)

pub returns-in-Renew-clause-obeyed : goal.returns-in-Renew-clause-obeyed
returns-in-Renew-clause-obeyed g c =
    rw c.in-Renew.is (renewed g.S.Symbol.kind g.P.Policy.choice _ _ _ _ _ _ _ _ c.args.desk.now.held c.renew.ensures.step c.renew.ensures.history)

pub returns-in-Some-clause-obeyed : goal.returns-in-Some-clause-obeyed
returns-in-Some-clause-obeyed g c = rw c.in-Show.is (shown g.S.Symbol.kind g.P.Policy.choice _ _ _ _ _ c.args.desk.now.held _ _ _ c.in-Some.is c.shown.ensures.step c.shown.ensures.history)

pub returns-in-None-clause-obeyed : goal.returns-in-None-clause-obeyed
returns-in-None-clause-obeyed g c = rw c.in-Show.is (not_shown g.S.Symbol.kind g.P.Policy.choice _ _ _ _ _ c.args.desk.now.held _ c.in-None.is)

pub returns-then-close-clause-obeyed : goal.returns-then-close-clause-obeyed
returns-then-close-clause-obeyed g c = rw c.in-Close.is (rw c.close.ensures.held (shut g.S.Symbol.kind g.P.Policy.choice _ _ _ _ _ c.args.desk.now.held _ (sym c.if-close.ensures.told) c.close.ensures.closed))

pub returns-else-close-clause-obeyed : goal.returns-else-close-clause-obeyed
returns-else-close-clause-obeyed g c = rw c.in-Close.is (rw c.close.ensures.held (not_shut g.S.Symbol.kind g.P.Policy.choice _ _ _ _ _ c.args.desk.now.held _ (sym c.if-close.ensures.told) c.close.ensures.closed))

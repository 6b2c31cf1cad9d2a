use Rattle.session.proofs.Asks.{asked_unopened, asked_acted, asked_held, asked_opened, not_open}
use Rattle.std.proofs.Common.{refl}
use Rattle.session.proofs.whole.Seat.ask.Goals as goal

pub returns-in-Some-clause-asked : goal.returns-in-Some-clause-asked
returns-in-Some-clause-asked g c o h ds = asked_held _ _ _ _ _ o h ds _ _ _ _ _ _ c.in-Some.is c.in-Open.is

pub returns-in-None-clause-asked : goal.returns-in-None-clause-asked
returns-in-None-clause-asked g c o h ds = rw c.open_anew.ensures.held (asked_opened _ _ _ _ _ _ o h ds _ _ _ _ _ _ _ _ c.in-None.is c.in-Open.is c.open_anew.ensures.made)

pub returns-then-not-self : goal.returns-then-not-self
returns-then-not-self g c = record { asked = λ o h ds. asked_unopened _ _ _ _ _ o h ds _ _ c.in_default.not-Open c.if-not-self.true; other = refl }

pub returns : goal.returns
returns g c = record {
  asked = λ o h ds. (asked_acted _ _ _ _ _ o h ds _ _ _ _ _ c.in_default.not-Open c.if-not-self.false (c.obey.ensures.acted (not_open _ c.in_default.not-Open)));
  other = c.obey.ensures.other;
}

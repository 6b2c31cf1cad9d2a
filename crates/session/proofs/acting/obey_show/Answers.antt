use Rattle.std.proofs.Common.{ap, sym, ◌≡◌}
use Rattle.session.specs.Obeying.{in_which}
use Rattle.session.proofs.Acts.{shown}
use Rattle.session.proofs.acting.obey_show.Goals.{in-Own, in-Other}
use Rattle.session.proofs.acting.obey_show.Goals as goal

pub returns : goal.returns
returns g c ps memory =
    let which : in_which c.args.hand c.args.desk.now.held c.args.other.now ≡ c.match-hand.under.now =
    elim c.match-hand.branch [
      | in-Own w ↦ rw w.in-Own.is (ap (λ t. t.now) (sym w.under-is))
      | in-Other w ↦ rw w.in-Other.is (ap (λ t. t.now) (sym w.under-is))
    ]
    in shown _ _ _ _ _ _ _ _ which c.show_in.ensures

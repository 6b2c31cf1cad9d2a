use Rattle.std.proofs.Common.{◌≡◌, length, None, sym, rules}
use Rattle.receiver.specs.Calls.{open_refusal}
use Rattle.receiver.specs.Stands.{opening}
use Rattle.days.proofs.whole.day.Goals as goal

pub returns-clause-day : goal.returns-clause-day
returns-clause-day g c =
    let n = length c.args.table.now in
    let granted : open_refusal c.args.number c.args.stamp n ≡ None = search rules in (
      granted,
      rw (sym c.open.ensures.values) (c.serve.ensures.day (opening c.args.number c.args.stamp n) (c.open.ensures.history granted)),
      rw (sym c.open.ensures.values) c.serve.ensures.answers,
    )

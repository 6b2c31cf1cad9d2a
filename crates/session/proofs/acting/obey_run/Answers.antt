use Rattle.std.proofs.Common.{◌≡◌, refl, sym, subst, rules, tests}
use Rattle.receiver.specs.View.{model}
use Rattle.session.specs.Obeying.{setting, Acted, or_not}
use Rattle.session.specs.declared.order.Order.TheVariants.{Run}
use Rattle.session.specs.declared.order.Entry.{Entry}
use Rattle.session.specs.declared.order.Entry.TheVariants.{Ran}
use Rattle.session.proofs.Acts.{ran, entered_or_not}
use Rattle.session.proofs.acting.obey_run.Goals as goal

pub returns : goal.returns
returns g c ps memory q other =
    let t = c.take_run in
    let is : c.map_or.result ≡ or_not Ran t.result = entered_or_not Ran t.result c.map_or.result _ c.map_or.ensures (λ x k. search (rules, tests)) in
    subst (λ (e : Entry _). Acted (setting g.S.Symbol.kind g.S.Carried.carriage ps memory) (model c.args.block.now) (model t.new.block) q q other (Run c.args.stamp c.args.bytes.now) e) (sym is)
    (ran _ _ _ _ _ _ _ t.result q other c.as_slice.ensures.value refl t.ensures.does t.ensures.history t.ensures.holding)

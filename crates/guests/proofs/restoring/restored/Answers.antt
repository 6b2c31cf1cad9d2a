use Rattle.std.proofs.Common.{◌≤◌, length, sym, ◌∙◌, arith}
use Rattle.std.proofs.lemmas.Option.{none-some}
use Rattle.receiver.specs.View.{model}
use Rattle.guests.proofs.Fitting.{settled, unsettled}
use Rattle.guests.proofs.Lost.{lost_settled}
use Rattle.guests.proofs.restoring.restored.Goals as goal

pub returns-in_err-permit-clause-settled : goal.returns-in_err-permit-clause-settled
returns-in_err-permit-clause-settled c x = (
  λ e. absurd (none-some x (sym c.from_residual-in_err-permit.ensures ∙ e)),
  λ l. absurd (unsettled c.args.heard.now (model c.hear.new.block) _ c.hear.ensures _ c.in_ok-code.ensures.columns _ c.solve.result c.solve.ensures.history c.args.place x (sym c.in_err-permit.ensures.value) l),
)

pub returns-clause-settled : goal.returns-clause-settled
returns-clause-settled c x =
    let few : length c.args.heard.now ≤ 512 = omega (arith, c.in_ok-code.ensures.columns, c.in_ok-code.code.few) in
    let answers = settled c.args.heard.now (model c.hear.new.block) _ c.hear.ensures _ c.in_ok-code.ensures.columns _ c.solve.result c.solve.ensures.history c.args.place x _ (sym c.in_ok-permit.ensures.value) few c.shown-shown.result c.shown-shown.ensures.history in
    (λ e. answers.0 (sym c.ok-in-Ok.ensures.value ∙ e), λ l. c.ok-in-Ok.ensures.value ∙ answers.1 l)

pub returns-in_err-permit-clause-lost : goal.returns-in_err-permit-clause-lost
returns-in_err-permit-clause-lost c one = (returns-in_err-permit-clause-settled c _).1 (lost_settled c.args.heard.now c.args.place one)

pub returns-clause-lost : goal.returns-clause-lost
returns-clause-lost c one = (returns-clause-settled c _).1 (lost_settled c.args.heard.now c.args.place one)

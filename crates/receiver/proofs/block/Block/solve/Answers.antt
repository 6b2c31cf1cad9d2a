use Rattle.std.proofs.Common.{◌≡◌, false, Ok, Err, refl, ◌∙◌, rules}
use Rattle.receiver.specs.Calls.{is_out}
use Rattle.receiver.specs.Solves.{as_unsolved}
use Rattle.receiver.specs.View.{model}
use Rattle.receiver.proofs.Promise.{solve_goes_on}
use Rattle.receiver.proofs.Solving.{solve_searched}
use Rattle.receiver.proofs.block.Block.solve.Goals as goal

pub returns : goal.returns
returns g c =
    let b = c.args.self.now in
    let k = g.C.Rows.matrix c.args.code.now in
    let free : is_out b.marks.out ≡ false = search rules in
    let same : c.shape-n.result.columns ≡ b.marks.n = search rules in
    let wide : k.width ≡ c.shape-n.result.columns = search rules in
    let left = solve_searched g.S.Symbol.kind g.P.Policy.choice k (model b) c.args.policy.now c.args.words.now c.args.sides.now _ c.shape-n.result.columns free same wide b.fits c.in_ok-report.ensures.done in
    let step = (λ i. record { answer = Ok (c.new.ensures i); block = (left 0).block; policy = (left 0).policy; words = (left 0).words; sides = (left 0).sides }) ∙ left in
    record {
      lent = refl;
      step = step;
      history = solve_goes_on g.met.S.Symbol.lawful g.P.Policy.choice k (g.C.Rows.lawful c.args.code.now) (g.met.P.Policy.names _) (model b) _ _ _ _ _ _ _ _ b.marks.few b.marks.flags step;
    }

pub returns-in_err-report : goal.returns-in_err-report
returns-in_err-report g c =
    let b = c.args.self.now in
    let k = g.C.Rows.matrix c.args.code.now in
    let free : is_out b.marks.out ≡ false = search rules in
    let same : c.shape-n.result.columns ≡ b.marks.n = search rules in
    let wide : k.width ≡ c.shape-n.result.columns = search rules in
    let answer : c.from_residual.result ≡ Err (as_unsolved c.in_err-report.field-0.0) = search rules in
    let left = solve_searched g.S.Symbol.kind g.P.Policy.choice k (model b) c.args.policy.now c.args.words.now c.args.sides.now _ c.shape-n.result.columns free same wide b.fits c.in_err-report.ensures.done in
    let step = (λ i. record { answer = answer i; block = (left 0).block; policy = (left 0).policy; words = (left 0).words; sides = (left 0).sides }) ∙ left in
    record {
      lent = refl;
      step = step;
      history = solve_goes_on g.met.S.Symbol.lawful g.P.Policy.choice k (g.C.Rows.lawful c.args.code.now) (g.met.P.Policy.names _) (model b) _ _ _ _ _ _ _ _ b.marks.few b.marks.flags step;
    }

use Rattle.std.proofs.Common.{◌≡◌, ◌*◌, inl, ◌+◌, ◌<◌, [], ◌∷◌, ◌++◌, length, take, set, Some, sym, refl, ap, ◌∙◌, subst, arith}
use Rattle.std.proofs.lemmas.List.{take_more, take_more_set, take_all}
use Rattle.codes.specs.Matrix.{height}
use Rattle.receiver.specs.View.{model}
use Rattle.days.specs.Days.{now_of, on, day_on, Answers, AllAnswer}
use Rattle.days.proofs.Clearing.{cleared_then}
use Rattle.days.proofs.Obeying.{day_more, all_more, day_true}
use Rattle.days.proofs.whole.serve.Goals as goal

pub loop-i-init : goal.loop-i-init
loop-i-init g c = ([], refl, λ o s. s, tt, inl refl, inl refl)

pub loop-i-preserved : goal.loop-i-preserved
loop-i-preserved g c =
    let inv = c.loop-i.invariant in
    let done = c.obey.ensures.obeyed in
    let i = c.loop-i.i in
    let K = g.S.Symbol.kind in
    let choice = g.P.Policy.choice in
    let k = g.C.Rows.matrix c.args.code.now in
    let nw = length c.args.words.now in
    let ns = length c.args.sides.now in
    let order = c.index-orders-i.result in
    let entry = c.obey.result in
    let h = inv.0 in
    let x = now_of (model c.loop-i.desk.block) c.loop-i.policy c.loop-i.desk.held h in
    let y = now_of (model c.obey.new.desk.block) c.obey.new.policy c.obey.new.desk.held (done.events ++ h) in
    let start = Some (now_of (model c.args.desk.now.block) c.args.policy.now c.args.desk.now.held []) in
    let inside : i < length c.args.orders.now = c.loop-i-test.true in
    let room : i < length c.loop-i.log = omega (arith, inside, c.loop-i.auto.log, c.requires) in
    let told : on K choice k nw ns x order entry ≡ Some y =
    subst (λ n. on K choice k n ns x order entry ≡ Some y) c.loop-i.auto.words (subst (λ n. on K choice k (length c.loop-i.words) n x order entry ≡ Some y) c.loop-i.auto.sides (done.told h)) in
    let answers : Answers K choice k nw ns x order entry =
    subst (λ n. Answers K choice k n ns x order entry) c.loop-i.auto.words (subst (λ n. Answers K choice k (length c.loop-i.words) n x order entry) c.loop-i.auto.sides (done.answers h)) in
    let orders : take (i + 1) c.args.orders.now ≡ take i c.args.orders.now ++ order ∷ [] = take_more c.args.orders.now i order inside ∙ ap (λ o. take i c.args.orders.now ++ o ∷ []) (sym c.index-orders-i.is) in
    let log : take (i + 1) (set c.loop-i.log i entry) ≡ take i c.loop-i.log ++ entry ∷ [] = take_more_set c.loop-i.log i entry room in (
      done.events ++ h,
      (λ j. day_on K choice k nw ns start (orders j) (log j)) ∙ day_more K choice k nw ns start (take i c.args.orders.now) (take i c.loop-i.log) order entry x y inv.1 told,
      λ o s. done.history o h (inv.2 o s),
      subst (λ os. AllAnswer K choice k nw ns start os (take (i + 1) (set c.loop-i.log i entry))) (sym orders)
          (subst (AllAnswer K choice k nw ns start (take i c.args.orders.now ++ order ∷ [])) (sym log)
          (all_more K choice k nw ns start (take i c.args.orders.now) (take i c.loop-i.log) order entry x inv.3 inv.1 answers)),
      cleared_then 0 (8 * height k) c.args.words.now c.loop-i.words c.obey.new.words inv.4 c.obey.ensures.words,
      cleared_then K.zero (height k) c.args.sides.now c.loop-i.sides c.obey.new.sides inv.5 c.obey.ensures.sides,
    )

pub returns-clause-day : goal.returns-clause-day
returns-clause-day g c o s =
    let inv = c.loop-i.invariant in
    let i = c.loop-i.i in
    let K = g.S.Symbol.kind in
    let choice = g.P.Policy.choice in
    let k = g.C.Rows.matrix c.args.code.now in
    let nw = length c.args.words.now in
    let ns = length c.args.sides.now in
    let start = Some (now_of (model c.args.desk.now.block) c.args.policy.now c.args.desk.now.held []) in
    let orders : take i c.args.orders.now ≡ c.args.orders.now = take_all i c.args.orders.now c.loop-i-test.false in
    let log : take i c.loop-i.log ≡ c.loop-i.log = take_all i c.loop-i.log (omega (arith, c.loop-i.auto.log, c.requires, c.loop-i-test.false)) in
    day_true K choice k nw ns o _ (model c.loop-i.desk.block) c.loop-i.policy c.loop-i.desk.held inv.0 ((λ j. day_on K choice k nw ns start (sym orders j) (sym log j)) ∙ inv.1) (inv.2 o s).truths

pub returns-clause-answers : goal.returns-clause-answers
returns-clause-answers g c =
    let inv = c.loop-i.invariant in
    let i = c.loop-i.i in
    let K = g.S.Symbol.kind in
    let choice = g.P.Policy.choice in
    let k = g.C.Rows.matrix c.args.code.now in
    let nw = length c.args.words.now in
    let ns = length c.args.sides.now in
    let start = Some (now_of (model c.args.desk.now.block) c.args.policy.now c.args.desk.now.held []) in
    let orders : take i c.args.orders.now ≡ c.args.orders.now = take_all i c.args.orders.now c.loop-i-test.false in
    let log : take i c.loop-i.log ≡ c.loop-i.log = take_all i c.loop-i.log (omega (arith, c.loop-i.auto.log, c.requires, c.loop-i-test.false)) in
    subst (λ os. AllAnswer K choice k nw ns start os c.loop-i.log) orders (subst (AllAnswer K choice k nw ns start (take i c.args.orders.now)) log inv.3)

pub returns-clause-words : goal.returns-clause-words
returns-clause-words g c = c.loop-i.invariant.4

pub returns-clause-sides : goal.returns-clause-sides
returns-clause-sides g c = c.loop-i.invariant.5

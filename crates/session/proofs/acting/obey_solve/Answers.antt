use Rattle.std.proofs.Common.{length, None, Ok, Err, sym, refl, subst}
use Rattle.std.proofs.Math.Logic.{∥∥₁_map}
use Rattle.receiver.specs.View.{model}
use Rattle.piles.specs.Piles.{pile_code}
use Rattle.session.specs.Obeying.{setting}
use Rattle.session.specs.Sides.{PileSolved, memory_of}
use Rattle.session.proofs.Solves.{too_little, without_pile, free_for, solved_so, with_no_code}
use Rattle.session.proofs.acting.obey_solve.Goals as goal

pub returns-then-short : goal.returns-then-short
returns-then-short g c other = too_little _ _ _ _ _ _ _ other c.if-short.ensures

pub returns-in_default : goal.returns-in_default
returns-in_default g c other = without_pile _ _ _ _ _ _ _ _ other c.if-short.ensures (sym c.in_default.ensures) refl

pub solved-requires : goal.solved-requires
solved-requires g c = free_for g.S.Symbol.kind _ _ _ _ _ _ c.args.desk.now.held c.in-Ok.answer c.args.desk.now.holding c.in-Ok.ensures

pub invariant_of-desk : goal.invariant_of-desk
invariant_of-desk g c =
    let K = g.S.Symbol.kind in
    let m = model c.args.desk.now.block in
    let m' = model c.solve_pile.new.block in
    let pile = c.in-Some.pile.now in
    let r = c.in-Ok.answer in
    let made : PileSolved K (pile_code pile) c.args.policy c.args.asked_words c.args.symbols m (Ok r) m' =
    subst (λ n. PileSolved K (pile_code pile) c.args.policy n c.args.symbols m (Ok r) m') c.front-words.ensures.long (subst (λ n. PileSolved K (pile_code pile) c.args.policy (length c.front-words.result.now) n m (Ok r) m') c.front-sides.ensures.long c.in-Ok.ensures) in
    let acted = solved_so (setting K g.S.Carried.carriage c.args.codes.now (memory_of c.args.words.now c.args.sides.now)) m m' _ _ _ _ _ None pile r _ _ c.if-short.ensures (sym c.in-Some.ensures) made c.solved.ensures.entry c.solved.ensures.hand in
    record { holding = ∥∥₁_map c.args.desk.now.holding acted.holding }

pub returns-in-Ok : goal.returns-in-Ok
returns-in-Ok g c other =
    let K = g.S.Symbol.kind in
    let m = model c.args.desk.now.block in
    let m' = model c.solve_pile.new.block in
    let pile = c.in-Some.pile.now in
    let r = c.in-Ok.answer in
    let made : PileSolved K (pile_code pile) c.args.policy c.args.asked_words c.args.symbols m (Ok r) m' =
    subst (λ n. PileSolved K (pile_code pile) c.args.policy n c.args.symbols m (Ok r) m') c.front-words.ensures.long (subst (λ n. PileSolved K (pile_code pile) c.args.policy (length c.front-words.result.now) n m (Ok r) m') c.front-sides.ensures.long c.in-Ok.ensures) in
    solved_so _ m m' _ _ _ _ _ other pile r _ _ c.if-short.ensures (sym c.in-Some.ensures) made c.solved.ensures.entry c.solved.ensures.hand

pub returns-in-Err : goal.returns-in-Err
returns-in-Err g c other =
    let K = g.S.Symbol.kind in
    let m = model c.args.desk.now.block in
    let m' = model c.solve_pile.new.block in
    let pile = c.in-Some.pile.now in
    let e = c.in-Err._none in
    let made : PileSolved K (pile_code pile) c.args.policy c.args.asked_words c.args.symbols m (Err e) m' =
    subst (λ n. PileSolved K (pile_code pile) c.args.policy n c.args.symbols m (Err e) m') c.front-words.ensures.long (subst (λ n. PileSolved K (pile_code pile) c.args.policy (length c.front-words.result.now) n m (Err e) m') c.front-sides.ensures.long c.in-Err.ensures) in
    with_no_code _ m m' _ _ _ _ _ other pile e c.if-short.ensures (sym c.in-Some.ensures) made

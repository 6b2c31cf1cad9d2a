use Rattle.std.proofs.Common.{◌≡◌, ◌+◌, ◌<◌, [], ◌∷◌, ◌++◌, length, take, set, sym, ap, ◌∙◌, subst, arith}
use Rattle.std.proofs.lemmas.List.{take_more, take_more_set, take_all}
use Rattle.session.specs.Obeying.{setting}
use Rattle.session.specs.Sessions.{Going, Session, Turned}
use Rattle.session.specs.Sides.{memory_of}
use Rattle.session.specs.declared.whole.Left.{Left}
use Rattle.session.proofs.Playing.{going_none, going_on, going_ended}
use Rattle.session.proofs.whole.serve.Goals as goal

pub loop-i-init : goal.loop-i-init
loop-i-init g c = going_none _ _ _ _ c.requires.first c.requires.second

pub loop-i-preserved : goal.loop-i-preserved
loop-i-preserved g c =
    let inv = c.loop-i.invariant in
    let i = c.loop-i.i in
    let K = g.S.Symbol.kind in
    let carriage = g.S.Carried.carriage in
    let codes = c.args.codes.now in
    let calls = c.args.calls.now in
    let call = c.index-calls-i.result in
    let entry = c.turn.result in
    let G = setting K carriage codes (memory_of c.args.words.now c.args.sides.now) in
    let room = length c.args.tables.now in
    let x' = c.turn.new.first in
    let y' = c.turn.new.second in
    let r' = length c.turn.new.tables.now in
    let inside : i < length calls = c.loop-i-test.true in
    let fits : i < length c.loop-i.log = omega (arith, inside, c.loop-i.auto.log, c.requires.long) in
    let memory : memory_of c.loop-i.words c.loop-i.sides ≡ memory_of c.args.words.now c.args.sides.now = λ j. record { words = c.loop-i.auto.words j; symbols = c.loop-i.auto.sides j } in
    let turned = subst (λ t. Turned (setting K carriage codes t) call entry c.loop-i.first x' c.loop-i.second y' (length c.loop-i.tables.now) r') memory c.turn.ensures in
    let on = going_on G room (take i calls) (take i c.loop-i.log) c.loop-i.first x' c.loop-i.second y' (length c.loop-i.tables.now) r' call entry inv turned in
    let made : take (i + 1) calls ≡ take i calls ++ call ∷ [] = take_more calls i call inside ∙ ap (λ o. take i calls ++ o ∷ []) (sym c.index-calls-i.is) in
    let log : take (i + 1) (set c.loop-i.log i entry) ≡ take i c.loop-i.log ++ entry ∷ [] = take_more_set c.loop-i.log i entry fits in
    subst (λ cs. Going G room cs (take (i + 1) (set c.loop-i.log i entry)) x' y' r') (sym made) (subst (λ es. Going G room (take i calls ++ call ∷ []) es x' y' r') (sym log) on)

pub returns-clause-session : goal.returns-clause-session
returns-clause-session g c =
    let inv = c.loop-i.invariant in
    let i = c.loop-i.i in
    let calls = c.args.calls.now in
    let G = setting g.S.Symbol.kind g.S.Carried.carriage c.args.codes.now (memory_of c.args.words.now c.args.sides.now) in
    let room = length c.args.tables.now in
    let left : Left = record { first = c.close.result; second = c.close-2.result } in
    let made : take i calls ≡ calls = take_all i calls c.loop-i-test.false in
    let log : take i c.loop-i.log ≡ c.loop-i.log = take_all i c.loop-i.log (omega (arith, c.loop-i.auto.log, c.requires.long, c.loop-i-test.false)) in
    subst (λ cs. Session G room cs c.loop-i.log left) made (subst (λ es. Session G room (take i calls) es left) log
    (going_ended G room (take i calls) (take i c.loop-i.log) _ _ _ left inv c.close.ensures.told c.close-2.ensures.told))

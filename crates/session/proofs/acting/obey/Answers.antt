use Rattle.std.proofs.Common.{◌≡◌, None, sym, rules}
use Rattle.std.proofs.Math.Logic.{∥∥₁_map}
use Rattle.session.specs.Sides.{memory_of}
use Rattle.session.specs.declared.order.Hand.TheVariants.{Own}
use Rattle.session.proofs.Acts.{received, renewed, figured, marked, closed_own, not_closed}
use Rattle.session.proofs.Holds.{renew_held}
use Rattle.session.proofs.acting.obey.Goals as goal

pub invariant_of-desk-in-Packet : goal.invariant_of-desk-in-Packet
invariant_of-desk-in-Packet g c =
    record { holding = ∥∥₁_map c.args.desk.now.holding (c.obey_packet.ensures c.args.codes.now (memory_of c.args.words.now c.args.sides.now) c.args.desk.now.held None).holding }

pub invariant_of-desk-in-Run : goal.invariant_of-desk-in-Run
invariant_of-desk-in-Run g c =
    record { holding = ∥∥₁_map c.args.desk.now.holding (c.obey_run.ensures c.args.codes.now (memory_of c.args.words.now c.args.sides.now) c.args.desk.now.held None).holding }

pub invariant_of-desk-in-Renew : goal.invariant_of-desk-in-Renew
invariant_of-desk-in-Renew g c = record { holding = ∥∥₁_map c.args.desk.now.holding (renew_held g.S.Symbol.kind _ _ _ _ c.renew.ensures.step c.args.desk.now.held) }

pub returns-in-Receive-clause-acted : goal.returns-in-Receive-clause-acted
returns-in-Receive-clause-acted g c = λ call.
    rw c.in-Receive.is (received _ _ _ _ _ _ _ _ _ c.args.other.now c.receive.ensures.step c.receive.ensures.history)

pub returns-in-Renew-clause-acted : goal.returns-in-Renew-clause-acted
returns-in-Renew-clause-acted g c = λ call.
    rw c.in-Renew.is (renewed _ _ _ _ _ _ c.args.other.now c.renew.ensures.step c.renew.ensures.history)

pub returns-in-Figure-clause-acted : goal.returns-in-Figure-clause-acted
returns-in-Figure-clause-acted g c = λ call. rw c.in-Figure.is (figured _ _ _ _ c.args.other.now c.figure.ensures)

pub returns-in-Mark-clause-acted : goal.returns-in-Mark-clause-acted
returns-in-Mark-clause-acted g c = λ call. rw c.in-Mark.is (marked _ _ _ _ _ c.args.other.now c.mark.ensures)

pub returns-then-close-clause-acted : goal.returns-then-close-clause-acted
returns-then-close-clause-acted g c = λ call.
    let own : c.in-Close-Own.hand ≡ Own = search rules in
    rw c.in-Close-Own.is (rw own (rw c.close.ensures.held (closed_own _ _ _ c.args.desk.now.held c.args.other.now (sym c.if-close.ensures.told) c.close.ensures.closed)))

pub returns-else-close-clause-acted : goal.returns-else-close-clause-acted
returns-else-close-clause-acted g c = λ call.
    let own : c.in-Close-Own.hand ≡ Own = search rules in
    rw c.in-Close-Own.is (rw own (rw c.close.ensures.held (not_closed _ _ _ c.args.desk.now.held c.args.other.now (sym c.if-close.ensures.told) c.close.ensures.closed)))

use Rattle.std.proofs.Common.{◌≡◌, ℕ, ◌+◌, ◌*◌, length, subst, sym, ap, ◌∙◌, arith}
use Rattle.bits.specs.Sets.{holds}
use Rattle.bits.proofs.Eights.{Filled, holds_in_eight, holds_in_rest, put_any, filled_none, filled_eight, filled_put, filled_skip, filled_all}
use Rattle.bits.proofs.column.holders.Goals as goal
use Rattle.bits.proofs.column.holders.Goals.{then-has, else-has}

pub loop-i-init : goal.loop-i-init
loop-i-init c = filled_none c.args.words.now c.args.c

pub loop-i-preserved : goal.loop-i-preserved
loop-i-preserved c =
    let ws = c.args.words.now in
    let rows = c.as_chunks.result.0.now in
    let eights = c.as_chunks-2.result.0.now in
    let i = c.loop-i.i in
    filled_eight ws c.args.c c.loop-i.set c.put_byte.new.set i c.byte_of.result c.loop-i.invariant c.put_byte.ensures
    (λ k h.
    c.byte_of.ensures.each k h
    ∙ holds_in_eight ws (8 * i + k) c.args.c rows c.as_chunks.ensures.front c.as_chunks.ensures.front_len eights i k c.as_chunks-2.ensures.front (omega (arith, c.loop-i-test.true, c.as_chunks-2.ensures.front_len)) h (omega arith))

pub loop-k-init : goal.loop-k-init
loop-k-init c =
    subst (Filled c.args.words.now c.args.c c.loop-i.set) (omega (arith, c.loop-i.auto.i-end, c.loop-i-test.false)) c.loop-i.invariant

pub loop-k-preserved : goal.loop-k-preserved
loop-k-preserved c =
    let ws = c.args.words.now in
    let rows = c.as_chunks.result.0.now in
    let eights = c.as_chunks-2.result.0.now in
    let k = c.loop-k.k in
    let n : ℕ = 8 * length eights + k in
    let more : n + 1 ≡ 8 * length eights + (k + 1) = omega arith in
    let of_row = holds_in_rest ws n c.args.c rows c.as_chunks.ensures.front c.as_chunks.ensures.front_len c.as_chunks-2.result.1.now k c.as_chunks-2.ensures.back (omega (arith, c.loop-k-test.true, c.as_chunks-2.ensures.back_len)) (omega (arith, c.as_chunks-2.ensures.front_len)) in
    subst (Filled ws c.args.c c.if-has.set) more (
    elim c.if-has.branch [
      | then-has w ↦ filled_put ws c.args.c c.loop-k.set n c.loop-k.invariant (sym of_row ∙ sym (w.if-has.ensures)) c.if-has.set
          (λ r h. ap (λ s. holds s r) w.set-is ∙ put_any c.loop-k.set w.put.new.words n w.if-has.array_long w.put.ensures r h)
      | else-has w ↦ filled_skip ws c.args.c c.loop-k.set n c.loop-k.invariant (sym of_row ∙ sym (w.if-has.ensures)) c.if-has.set w.set-is
    ])

pub returns : goal.returns
returns c =
    filled_all c.args.words.now c.args.c c.loop-k.set (8 * length c.as_chunks-2.result.0.now + c.loop-k.k) c.loop-k.invariant
    (omega (arith, c.loop-k-test.false, c.as_chunks.ensures.front_len, c.as_chunks-2.ensures.front_len, c.as_chunks-2.ensures.back_len))

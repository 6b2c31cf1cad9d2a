use Rattle.std.proofs.Common.{take, slice_set, ap, ◌∙◌, arith}
use Rattle.receiver.proofs.Zeroing.{missing_more, received_more}
use Rattle.receiver.proofs.block.Block.clear_missing.Goals as goal
use Rattle.receiver.proofs.block.Block.clear_missing.Goals.{then-not-got, else-not-got}

pub loop-c-preserved : goal.loop-c-preserved
loop-c-preserved g c =
    let zero = g.S.Symbol.kind.zero in
    let b = c.args.self.now in
    let rs = take b.marks.n b.marks.received in
    let i = c.loop-c.c in
    elim c.if-not-got.branch [
      | then-not-got w ↦
          w.table-is ∙ ap (λ x. slice_set c.loop-c.table i x) w.zero.ensures ∙ ap (λ ys. slice_set ys i zero) c.loop-c.invariant
          ∙ missing_more zero rs b.table.now i (omega arith) w.if-not-got.true
      | else-not-got w ↦ w.table-is ∙ c.loop-c.invariant ∙ received_more zero rs b.table.now i (omega arith) w.if-not-got.false
    ]

use Rattle.std.proofs.Common.{◌∙◌, arith}
use Rattle.std.proofs.lemmas.List.{set-get_or}
use Rattle.search.specs.Found.{symbol_at}
use Rattle.search.proofs.Filling.{filling_none, filling_kept, filling_put, filling_all}
use Rattle.search.proofs.whole.fill.Goals as goal
use Rattle.search.proofs.whole.fill.Goals.{then-not-received-c, else-not-received-c}

pub loop-c-init : goal.loop-c-init
loop-c-init g c =
    let K = g.S.Symbol.kind in
    filling_none K.zero c.args.received.now (symbol_at K c.args.found.now c.args.sides.now) c.args.table.now

pub loop-c-preserved : goal.loop-c-preserved
loop-c-preserved g c =
    elim c.if-not-received-c.branch [
      | then-not-received-c w ↦ filling_put c.loop-c.invariant (omega arith) w.if-not-received-c.true w.symbol.result w.symbol.ensures _ w.table-is
      | else-not-received-c w ↦ filling_kept c.loop-c.invariant w.if-not-received-c.false _ (w.table-is ∙ set-get_or c.loop-c.table c.loop-c.c c.index-table-c.result)
    ]

pub returns : goal.returns
returns g c = filling_all c.loop-c.invariant (omega arith)

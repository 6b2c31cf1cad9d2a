use Rattle.std.proofs.Common.{refl, ap, ◌∙◌, arith}
use Rattle.bits.specs.Sets.{holds}
use Rattle.policies.proofs.Marks.{holds_zeros}
use Rattle.search.proofs.Keeping.{kept_none, kept_more}
use Rattle.search.proofs.Loading.{loaded_none, loaded_more}
use Rattle.search.proofs.heard.Heard.load_rows.Goals as goal

pub loop-r-init : goal.loop-r-init
loop-r-init g c = (
  loaded_none g.S.Symbol.kind (g.C.Rows.matrix c.args.self.now.code.now) c.args.self.now.received.now c.args.self.now.table.now c.args.words.now c.args.sides.now _ refl,
  kept_none c.args.kept.now c.args.words.now (λ k. ap (λ ks. holds ks k) c.requires.clear ∙ holds_zeros 2048 k),
)

pub read_row-sum-requires : goal.read_row-sum-requires
read_row-sum-requires g c =
    let ok = g.C.Rows.lawful c.args.self.now.code.now in
    record { row = omega (arith, c.requires.high); clear = λ d. c.loop-r.invariant.1.none d c.loop-r.r (omega arith) (omega (arith, c.requires.high, ok.few_rows)) }

pub loop-r-preserved : goal.loop-r-preserved
loop-r-preserved g c =
    let read = c.read_row-sum in
    let ok = g.C.Rows.lawful c.args.self.now.code.now in (
      loaded_more g.S.Symbol.kind (g.C.Rows.matrix c.args.self.now.code.now) c.args.self.now.received.now c.args.self.now.table.now c.loop-r.words c.put_line.new.words
          c.loop-r.sides _ c.loop-r.counts _ c.loop-r.r read.result.0 read.result.1 read.result.2 c.loop-r.invariant.0 read.ensures.read
          (omega (arith, c.requires.within, c.loop-r.auto.words)) (omega arith) (omega (arith, c.requires.high, ok.few_rows)) c.put_line.ensures refl refl,
      kept_more c.loop-r.kept read.new.kept c.loop-r.words c.put_line.new.words c.loop-r.r read.result.0 c.loop-r.invariant.1 read.ensures.noted
          read.ensures.read.eight (omega (arith, c.requires.within, c.loop-r.auto.words)) (omega (arith, c.requires.high, ok.few_rows)) c.put_line.ensures,
    )

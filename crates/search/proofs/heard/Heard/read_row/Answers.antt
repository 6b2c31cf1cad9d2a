use Rattle.std.proofs.Common.{◌<◌, ◌≤◌, false, length, refl, ◌∙◌, subst, arith}
use Rattle.std.proofs.lemmas.List.{length-take-le, get_or-take}
use Rattle.codes.specs.Matrix.{row_at}
use Rattle.codes.proofs.RowsRead.{row_place, row_small, row_end}
use Rattle.method.specs.Sets.{marked}
use Rattle.method.specs.Method.{missing}
use Rattle.policies.proofs.Marks.{holds_zeros}
use Rattle.search.specs.Searches.{marks_in}
use Rattle.search.proofs.Keeping.{noted_none, noted_more}
use Rattle.search.proofs.Loading.{Reading, row_few, reading_got, reading_lost, reading_marks}
use Rattle.search.proofs.heard.Heard.read_row.Goals as goal

pub bounds-self-c : goal.bounds-self-c
bounds-self-c g c =
    let m = g.C.Rows.matrix in
    let k = m c.args.self.now.code.now in
    let ok = g.C.Rows.lawful c.args.self.now.code.now in
    omega (arith, row_small m k c.args.r c.row-c-items.ensures c.into_iter-c-iterator.ensures.into_iter_gives c.loop-c.yielded _ c.loop-c.yielded_by ok c.in-Some.c _ c.in-Some.ensures.steps, ok.few_columns)

pub keep-requires : goal.keep-requires
keep-requires g c =
    let m = g.C.Rows.matrix in
    let k = m c.args.self.now.code.now in
    let ok = g.C.Rows.lawful c.args.self.now.code.now in
    record {
      column = omega (arith, row_small m k c.args.r c.row-c-items.ensures c.into_iter-c-iterator.ensures.into_iter_gives c.loop-c.yielded _ c.loop-c.yielded_by ok c.in-Some.c _ c.in-Some.ensures.steps, ok.few_columns);
      row = omega (arith, c.requires.row, ok.few_rows);
    }

pub overflow_add-lost : goal.overflow_add-lost
overflow_add-lost g c =
    let m = g.C.Rows.matrix in
    let k = m c.args.self.now.code.now in
    let ok = g.C.Rows.lawful c.args.self.now.code.now in
    let place = row_place m k c.args.r c.row-c-items.ensures c.into_iter-c-iterator.ensures.into_iter_gives c.loop-c.yielded _ c.loop-c.yielded_by c.in-Some.c _ c.in-Some.ensures.steps in
    omega (arith, place.0, c.loop-c.invariant.0.few, row_few k ok c.args.r)

pub loop-c-init : goal.loop-c-init
loop-c-init g c =
    let ok = g.C.Rows.lawful c.args.self.now.code.now in
    let kept = c.args.kept.now in (
      record { eight = refl; held = holds_zeros 8; right = c.zero-side.ensures; lost = refl; few = omega arith },
      noted_none kept kept c.args.r _ (omega (arith, c.requires.row, ok.few_rows)) c.requires.clear (holds_zeros 8),
      omega arith,
    )

pub loop-c-preserved-then-self-c : goal.loop-c-preserved-then-self-c
loop-c-preserved-then-self-c g c =
    let m = g.C.Rows.matrix in
    let k = m c.args.self.now.code.now in
    let ok = g.C.Rows.lawful c.args.self.now.code.now in
    let received = c.args.self.now.received.now in
    let d = c.in-Some.c in
    let low : d < k.width = row_small m k c.args.r c.row-c-items.ensures c.into_iter-c-iterator.ensures.into_iter_gives c.loop-c.yielded _ c.loop-c.yielded_by ok d _ c.in-Some.ensures.steps in
    let wide : k.width ≤ length received = omega (arith, ok.few_columns, c.args.self.now.each) in (
      reading_got g.S.Symbol.kind c.args.self.now.table.now (marks_in k received) c.loop-c.yielded c.loop-c.line c.loop-c.side c.loop-c.lost d c.loop-c.invariant.0
          (omega (arith, length-take-le k.width received wide, low)) g.met.S.Symbol.lawful.sums (get_or-take k.width received d false low ∙ c.if-self-c.true) c.add_column.new.sum c.add_column.ensures,
      c.loop-c.invariant.1,
      c.loop-c.invariant.2,
    )

pub loop-c-preserved : goal.loop-c-preserved
loop-c-preserved g c =
    let m = g.C.Rows.matrix in
    let k = m c.args.self.now.code.now in
    let ok = g.C.Rows.lawful c.args.self.now.code.now in
    let received = c.args.self.now.received.now in
    let d = c.in-Some.c in
    let low : d < k.width = row_small m k c.args.r c.row-c-items.ensures c.into_iter-c-iterator.ensures.into_iter_gives c.loop-c.yielded _ c.loop-c.yielded_by ok d _ c.in-Some.ensures.steps in
    let wide : k.width ≤ length received = omega (arith, ok.few_columns, c.args.self.now.each) in
    let narrow : d < 512 = omega (arith, low, ok.few_columns) in (
      reading_lost g.S.Symbol.kind c.args.self.now.table.now (marks_in k received) c.loop-c.yielded c.loop-c.line c.loop-c.side c.loop-c.lost d c.loop-c.invariant.0
          (omega (arith, length-take-le k.width received wide, low)) (get_or-take k.width received d false low ∙ c.if-self-c.false) c.put.new.words c.put.auto.words c.put.ensures narrow,
      noted_more c.args.kept.now c.loop-c.kept c.args.r c.loop-c.line (omega (arith, c.requires.row, ok.few_rows)) c.loop-c.invariant.1 d narrow c.loop-c.invariant.2
          c.loop-c.invariant.0.eight c.put.new.words c.keep.new.kept c.put.ensures c.keep.ensures,
      omega (arith, c.loop-c.invariant.2),
    )

pub returns : goal.returns
returns g c =
    let m = g.C.Rows.matrix in
    let K = g.S.Symbol.kind in
    let k = m c.args.self.now.code.now in
    let got = marks_in k c.args.self.now.received.now in
    let all = row_end m k c.args.r c.row-c-items.ensures c.into_iter-c-iterator.ensures.into_iter_gives c.loop-c.yielded _ c.loop-c.yielded_by c.in-None.ensures.steps.0 in
    let so = subst (λ cs. Reading K c.args.self.now.table.now got cs c.loop-c.line c.loop-c.side c.loop-c.lost) all c.loop-c.invariant.0 in
    record {
      noted = c.loop-c.invariant.1;
      read = record { eight = so.eight; cols = reading_marks k.width c.loop-c.line (marked (missing got) (row_at k c.args.r)) so.held; right = so.right; many = so.lost };
    }

use Rattle.std.proofs.Common.{◌<◌, ap, arith}
use Rattle.codes.specs.Matrix.{row_at, member}
use Rattle.codes.specs.MatrixLaws.{row_lawful}
use Rattle.codes.proofs.RowsRead.{row_small}
use Rattle.method.proofs.Counts.{occ}
use Rattle.policies.specs.Numbers.{at}
use Rattle.policies.proofs.Weights.{bump_num, num_most, occ_once, tally_more}
use Rattle.policies.proofs.heaviest.tally.Given.{Over}
use Rattle.policies.proofs.heaviest.tally.Goals as goal
use Rattle.policies.proofs.heaviest.tally.Goals.{In-Some}

-- a column of the row is small
small : (g : Over) (c : In-Some g) → c.in-Some.c < 512
small g c =
    let ok = g.C.Rows.lawful c.args.code.now in
    omega (arith, ok.few_columns, row_small g.C.Rows.matrix _ c.args.r c.row-c-items.ensures c.into_iter-c-iterator.ensures.into_iter_gives c.loop-c.yielded _ c.loop-c.yielded_by ok c.in-Some.c _ c.in-Some.ensures.steps)

pub raise-requires : goal.raise-requires
raise-requires g c =
    let k = g.C.Rows.matrix c.args.code.now in
    let x = c.in-Some.c in
    let row = row_at k c.args.r in
    let once = occ_once x row (row_lawful k (g.C.Rows.lawful c.args.code.now) c.args.r).apart in
    record { column = small g (goal.at.raise-requires g c).In-Some; room = omega (arith, c.loop-c.invariant x, c.requires x, once, num_most (member x row)) }

pub loop-c-preserved : goal.loop-c-preserved
loop-c-preserved g c d =
    let inside = small g (goal.at.loop-c-preserved g c).In-Some in
    omega (arith, tally_more c.loop-c.counts _ _ _ c.in-Some.c c.raise.ensures c.raise.array_long inside c.in-Some.ensures.steps d, c.loop-c.invariant d)

pub returns : goal.returns
returns g c d =
    let k = g.C.Rows.matrix c.args.code.now in
    let row = row_at k c.args.r in
    let once = occ_once d row (row_lawful k (g.C.Rows.lawful c.args.code.now) c.args.r).apart in
    omega (arith, c.loop-c.invariant d, ap (occ d) c.in-None.ensures.steps.0, once, bump_num (member d row) (at c.args.counts.now d))

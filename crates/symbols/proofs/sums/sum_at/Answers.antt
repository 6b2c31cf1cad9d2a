use Rattle.std.proofs.Common.{◌≡◌, ℕ, get_or, sym, ◌∙◌}
use base.Stored.{Coded-set}
use Rattle.symbols.specs.Sums.{picked, sum_at}
use Rattle.symbols.proofs.Totals.{total_all, total_perm, perm_map}
use Rattle.symbols.proofs.sums.sum_at.Goals as goal

pub returns-clause-order : goal.returns-clause-order
returns-clause-order g c =
    let K = g.S.Symbol.kind in
    let laws = g.met.S.Symbol.lawful.sums in
    let table = c.args.table.now in
    let columns = c.args.columns.now in
    let at = λ (k : ℕ). get_or table k K.zero in
    let value : c.loop-c.sum ≡ sum_at K.zero K.sum table columns = sym (total_all laws at columns c.loop-c.c-index c.loop-c.sum c.loop-c-test.false) ∙ c.loop-c.invariant in
    λ cs p. value ∙ total_perm laws (Coded-set g.row.S.coded) (picked K.zero table columns) (picked K.zero table cs) (perm_map at columns cs p)

use Rattle.std.proofs.Common.{◌<◌, ℕ, not, ◌&&◌, length, get_or, sym, ap, ◌∙◌, zero-add, arith, rules, tests}
use Rattle.std.proofs.lemmas.Iterator.{YieldsList-from_slice}
use Rattle.std.proofs.lemmas.Iterator.Consumers.{YieldsList-from_enumerate}
use Rattle.std.proofs.lemmas.Iterator.Search.{any_from_yields_List}
use Rattle.std.proofs.lemmas.List.FromFn.{length-enumerate_from, get_or-enumerate_from}
use Rattle.std.specs.List.{enumerate_from}
use Rattle.method.specs.Sets.{has}
use Rattle.method.specs.Method.{clash, blank}
use Rattle.policies.specs.Shown.{shown}
use Rattle.search.specs.View.{lines}
use Rattle.search.proofs.Lines.{length_lines, clash_at}
use Rattle.search.proofs.Lowest.{any_lowest, any_like}
use Rattle.search.proofs.read.clashes.Goals as goal

pub returns : goal.returns
returns g c n ws =
    let K = g.S.Symbol.kind in
    let ss = c.args.sides.now in
    let u = c.args.uses.now in
    let test = λ (p : ℕ × g.row.S.Denot). has (shown u.unused) p.0 && not (K.is_zero p.1) in
    let long = length_lines K n ws ss u in
    any_from_yields_List test _ _ _ c.any.ensures.ran (YieldsList-from_enumerate (YieldsList-from_slice ss (cc)) (cc)) (λ x b q k. search (rules, tests))
    ∙ any_like test (clash K) (0, K.zero) (blank K) (enumerate_from 0 ss) (lines K n ws ss u) (length-enumerate_from 0 ss ∙ sym long)
    (λ k l.
    let inside : k < length ss = omega (arith, l, long) in
    ap test (get_or-enumerate_from 0 ss k (0, K.zero) inside) ∙ ap (λ j. test (j, get_or ss k K.zero)) (zero-add k) ∙ sym (clash_at K n ws ss u k inside))
    ∙ any_lowest (clash K) (lines K n ws ss u)

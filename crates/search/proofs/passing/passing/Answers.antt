use Rattle.std.proofs.Common.{sym, arith}
use Rattle.policies.specs.Shown.{shown}
use Rattle.search.proofs.Built.{built_none, built_more, built_all}
use Rattle.search.proofs.passing.passing.Goals as goal

pub loop-c-init : goal.loop-c-init
loop-c-init g c t p = built_none c.args.n t (shown c.none-set.result) c.requires.few c.none-set.ensures

pub loop-c-preserved : goal.loop-c-preserved
loop-c-preserved g c t p =
    let is = sym (p c.loop-c.c c.test.result c.loop-c-test.true c.test.ensures) in
    built_more (c.loop-c.invariant t p) c.loop-c-test.true c.test.result is _ c.turn.ensures

pub returns : goal.returns
returns g c t p = built_all (c.loop-c.invariant t p) (omega arith)

use Rattle.std.proofs.Common.{◌≡◌, set, ◌∙◌, arith, length-set, get_or-set_other, get_or-set_same, below_more}
use Rattle.policies.specs.Numbers.{at}
use Rattle.policies.proofs.forest.Forest.alone.Goals as goal

pub loop-c-preserved : goal.loop-c-preserved
loop-c-preserved c =
    let up = c.loop-c.root-items in
    let i = c.loop-c.c in (
      length-set up i i ∙ c.loop-c.invariant.0,
      below_more (λ k. at (set up i i) k ≡ k) i
          (λ k l. get_or-set_other up i k i 0 (omega arith) ∙ c.loop-c.invariant.1 k l)
          (get_or-set_same up i i 0 (omega (arith, c.loop-c.invariant.0))),
    )

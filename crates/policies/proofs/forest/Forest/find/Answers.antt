use Rattle.std.proofs.Common.{◌<◌, ◌≢◌, set, sym, ap, ◌∙◌, subst, arith}
use Rattle.policies.specs.Numbers.{at}
use Rattle.policies.specs.Forests.{Kept}
use Rattle.policies.proofs.Trees.{above_low, lifted_keeps, kept_more}
use Rattle.policies.proofs.forest.Forest.find.Goals as goal

pub loop-k-preserved : goal.loop-k-preserved
loop-k-preserved c =
    let up = c.loop-k.self.up in
    let k = c.loop-k.k in
    let falling = c.loop-k.self.falling in
    let kept = c.loop-k.invariant.1 in
    let inside : k < 512 = omega arith in
    let no_root : at up k ≢ k = λ e. c.loop-k-test.true (c.from.ensures ∙ e) in
    let above = c.lift-k.ensures.two_above in
    let next = c.lift-k.ensures.pointed ∙ ap (set up k) above in (
      omega (arith, above_low up k inside falling no_root, above),
      subst (Kept c.args.self.now.up) (sym next) (kept_more c.args.self.now.up up _ kept (lifted_keeps up k inside falling no_root)),
      λ f w.
          let o = kept.still f w in
          ap f above ∙ o.keeps (at up k) (omega (arith, falling.falls k inside)) ∙ o.keeps k inside ∙ c.loop-k.invariant.2 f w,
    )

use Rattle.std.proofs.Common.{◌≡◌, min, true, false, length, sym, ap, ◌∙◌, arith, length-set}
use Rattle.std.proofs.lemmas.List.{length-replicate}
use Rattle.policies.specs.Shown.{shown}
use Rattle.policies.proofs.Marks.{length_shown, all_more, all_same}
use Rattle.policies.proofs.columns.Columns.all.Goals as goal

pub loop-c-preserved : goal.loop-c-preserved
loop-c-preserved c =
    let s = c.loop-c.set in
    let e = c.put.ensures in (
      sym (length_shown c.put.new.self) ∙ ap length e ∙ length-set (shown s) c.loop-c.c true ∙ length_shown s ∙ c.loop-c.invariant.0,
      rw e (all_more (shown s) c.loop-c.c true (omega (arith, length_shown s, c.loop-c.invariant.0)) c.loop-c.invariant.1),
    )

pub returns : goal.returns
returns c =
    let s = c.loop-c.set in
    let wide : c.none-set.result.width ≡ min c.args.width 512 = sym (length_shown c.none-set.result) ∙ ap length c.none-set.ensures ∙ length-replicate (min c.args.width 512) false in
    all_same (shown s) (min c.args.width 512) true (length_shown s ∙ c.loop-c.invariant.0 ∙ wide) (λ k l. c.loop-c.invariant.1 k (omega (arith, wide)))

use Rattle.std.proofs.Common.{◌≡◌, ℕ, ◌+◌, ◌<◌, List, length, set, sym, refl, ap, ◌∙◌, subst, arith}
use Rattle.method.specs.Choices.{count_to, in_set}
use Rattle.policies.specs.Shown.{shown}
use Rattle.policies.proofs.Marks.{length_shown}
use Rattle.policies.proofs.Sizes.{Sized, sized_start, sized_idle, sized_hit}
use Rattle.policies.proofs.forest.Forest.sizes.Goals as goal
use Rattle.policies.proofs.forest.Forest.sizes.Goals.{then-has, else-has}

pub loop-c-init : goal.loop-c-init
loop-c-init c = sized_start 512 (shown c.args.active.now) c.args.self.now.up refl c.args.self.now.falling

pub loop-c-preserved : goal.loop-c-preserved
loop-c-preserved c =
    let a = shown c.args.active.now in
    let before = c.args.self.now.up in
    let up = c.loop-c.self.up in
    let k = c.loop-c.c in
    let r = c.lift-root.result in
    let above = c.lift-root.ensures.two_above in
    let inside : k < 512 = omega (arith, c.args.active.now.narrow) in
    subst (λ (t : List ℕ). Sized a before t c.if-has.sizes (k + 1)) (sym c.lift-root.ensures.pointed) (
    elim c.if-has.branch [
      | then-has v ↦ subst (λ (s : List ℕ). Sized a before (set up k r) s (k + 1)) (sym (v.sizes-is ∙ v.raise.ensures)) (sized_hit a before up c.loop-c.sizes k r inside c.loop-c.invariant above v.if-has.ensures)
      | else-has v ↦ subst (λ (s : List ℕ). Sized a before (set up k r) s (k + 1)) (sym v.sizes-is) (sized_idle a before up c.loop-c.sizes k r inside c.loop-c.invariant above v.if-has.ensures)
    ])

pub returns : goal.returns
returns c f w l h =
    let a = shown c.args.active.now in
    let all : c.loop-c.c ≡ length a = omega (arith, length_shown c.args.active.now) in
    c.loop-c.invariant.counts f w l h ∙ ap (count_to (in_set a f l)) all

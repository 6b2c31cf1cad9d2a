use Rattle.std.proofs.Common.{◌≡◌, ◌<◌, [], ◌∷◌, ◌++◌, length, get_or, take, refl, sym, ap, ◌∙◌, arith}
use Rattle.std.proofs.lemmas.List.{take_more}
use Rattle.method.specs.Sets.{lowest}
use Rattle.method.specs.Method.{holder, settle, settle_at}
use Rattle.method.proofs.Loop.{settle_push}
use Rattle.search.specs.View.{bare}
use Rattle.search.proofs.Stepping.{memory_again}
use Rattle.search.proofs.elimination.Elimination.settle_all.Goals as goal

pub loop-i-init : goal.loop-i-init
unfolding settle
loop-i-init g c = (record { words = refl; sides = refl; long = refl; high = refl }, refl, omega (arith, c.requires.unfreed), omega (arith, c.requires.added), refl)

pub loop-i-preserved : goal.loop-i-preserved
loop-i-preserved g c =
    let K = g.S.Symbol.kind in
    let inv = c.loop-i.invariant in
    let i = c.loop-i.i in
    let e = c.settle_one.ensures in
    let cs = c.args.self.now.pivots.items in
    let s₀ = bare K c.args.self.now in
    let d = c.from-c.result in
    let in' : i < length cs = omega (arith, c.len-i-end.ensures.value) in
    let is : d ≡ get_or cs i 0 = c.from-c.ensures ∙ ap (λ xs. get_or xs i 0) (c.deref.ensures.0 ∙ ap (λ v. v.items) inv.1) in (
      memory_again inv.0 e.memory,
      e.pivots ∙ inv.1,
      omega (arith, e.free, inv.2),
      omega (arith, e.few, inv.3),
      e.state
          ∙ ap (λ s. settle_at K d (lowest (holder d) s.rows) s) inv.4
          ∙ sym (settle_push K (take i cs) d s₀)
          ∙ ap (λ ps. settle K ps s₀) (ap (λ x. take i cs ++ (x ∷ [])) is ∙ sym (take_more cs i 0 in')),
    )

use Rattle.std.proofs.Common.{◌≡◌, min, max, set, sym, ap, ◌∙◌, subst, arith}
use Rattle.policies.specs.Forests.{Labelled, joined}
use Rattle.policies.proofs.Trees.{roots_joined}
use Rattle.policies.proofs.forest.Forest.join.Goals as goal

pub returns : goal.returns
returns c f w =
    let up = c.find-q.new.self.up in
    let p = c.find-p.result in
    let q = c.find-q.result in
    let is : set up c.max.result c.min.result ≡ set up (max p q) (min p q) = ap (λ n. set up n c.min.result) c.max.ensures ∙ ap (set up (max p q)) c.min.ensures in
    subst (λ t. Labelled t (joined f c.args.x c.args.y)) (sym is)
    (roots_joined c.args.self.now.up c.find-p.new.self.up up c.args.x c.args.y p q (omega arith) (omega arith) c.find-p.ensures c.find-q.ensures f w)

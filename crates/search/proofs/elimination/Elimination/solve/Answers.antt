use Rattle.std.proofs.Common.{◌≡◌, length, replicate, refl, ap, ◌∙◌, arith}
use Rattle.codes.specs.Matrix.{height}
use Rattle.search.proofs.Ending.{ended, run_none, run_several, run_one}
use Rattle.search.proofs.elimination.Elimination.solve.Goals as goal

pub returns-then-clashes-clause-run : goal.returns-then-clashes-clause-run
returns-then-clashes-clause-run g c received table begun =
    let K = g.S.Symbol.kind in
    let choice = g.P.Policy.choice in
    let k = g.C.Rows.matrix c.args.code.now in
    let p = c.args.policy.now in
    let q = c.eliminate.new.policy in
    let e = c.eliminate.new.self in
    let is = ended K choice k received table p q c.args.self.now e begun c.eliminate.ensures.state in
    let high : length e.sides.now ≡ height k = c.eliminate.ensures.memory.high ∙ c.requires.high in
    let zeros = c.wipe.ensures ∙ ap (λ n. replicate n 0) (omega (arith, c.eliminate.ensures.memory.long, c.args.self.now.within, c.requires.high)) in
    run_none K choice k received table p q e is high c.len.result c.len.ensures.value c.wipe.new.words zeros
    (c.if-clashes.ensures e.active.width e.words.now) c.wipe-then-clashes.new.sides c.wipe-then-clashes.ensures

pub returns-then-free-gt0-clause-run : goal.returns-then-free-gt0-clause-run
returns-then-free-gt0-clause-run g c received table begun =
    let K = g.S.Symbol.kind in
    let choice = g.P.Policy.choice in
    let k = g.C.Rows.matrix c.args.code.now in
    let p = c.args.policy.now in
    let q = c.eliminate.new.policy in
    let e = c.eliminate.new.self in
    let is = ended K choice k received table p q c.args.self.now e begun c.eliminate.ensures.state in
    let high : length e.sides.now ≡ height k = c.eliminate.ensures.memory.high ∙ c.requires.high in
    let zeros = c.wipe.ensures ∙ ap (λ n. replicate n 0) (omega (arith, c.eliminate.ensures.memory.long, c.args.self.now.within, c.requires.high)) in
    run_several K choice k received table p q e is high c.len.result c.len.ensures.value c.wipe.new.words zeros
    c.len-free.result c.len-free.ensures.value c.if-free-gt0.true (c.if-clashes.ensures e.active.width e.words.now) c.wipe-then-free-gt0.new.sides c.wipe-then-free-gt0.ensures

pub returns-clause-run : goal.returns-clause-run
returns-clause-run g c received table begun =
    let K = g.S.Symbol.kind in
    let choice = g.P.Policy.choice in
    let k = g.C.Rows.matrix c.args.code.now in
    let p = c.args.policy.now in
    let q = c.eliminate.new.policy in
    let e = c.eliminate.new.self in
    let is = ended K choice k received table p q c.args.self.now e begun c.eliminate.ensures.state in
    let high : length e.sides.now ≡ height k = c.eliminate.ensures.memory.high ∙ c.requires.high in
    let zeros = c.wipe.ensures ∙ ap (λ n. replicate n 0) (omega (arith, c.eliminate.ensures.memory.long, c.args.self.now.within, c.requires.high)) in
    run_one K choice k received table p q e is high c.len.result c.len.ensures.value c.wipe.new.words zeros
    c.len-free.result c.len-free.ensures.value c.if-free-gt0.false (c.if-clashes.ensures e.active.width e.words.now) _ refl c.places.ensures

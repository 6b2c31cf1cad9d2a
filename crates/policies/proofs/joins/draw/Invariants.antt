use Rattle.std.proofs.Common.{length}
use Rattle.method.specs.Choices.{joins}
use Rattle.policies.specs.Drawings.{Drawn}
use Rattle.policies.specs.Shown.{shown}
use Rattle.policies.proofs.joins.draw.Given as goal

abbrev pub invariant-loop-r : goal.invariant-loop-r
invariant-loop-r g l =
    let a = shown l.active in
    Drawn (length a) (joins (g.C.Rows.matrix l.code) a (shown l.unused) l.r) l.forest

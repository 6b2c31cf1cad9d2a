use Rattle.std.proofs.Common.{◌≡◌, ◌+◌, ◌*◌, ◌≤◌, length, take}
use Rattle.method.specs.Method.{settle}
use Rattle.search.specs.Steps.{SameMemory}
use Rattle.search.specs.View.{bare}
use Rattle.search.proofs.elimination.Elimination.settle_all.Given as goal

abbrev pub invariant-loop-i : goal.invariant-loop-i
invariant-loop-i g l =
    let K = g.S.Symbol.kind in
    SameMemory l.initial.self l.self
    × (l.self.pivots ≡ l.initial.self.pivots)
    × (length l.self.free.items ≤ l.i)
    × (l.self.additions ≤ 131072 + 256 * l.i)
    × (bare K l.self ≡ settle K (take l.i l.initial.self.pivots.items) (bare K l.initial.self))

use Rattle.std.proofs.Common.{length, take}
use Rattle.session.specs.Obeying.{setting}
use Rattle.session.specs.Sessions.{Going}
use Rattle.session.specs.Sides.{memory_of}
use Rattle.session.proofs.whole.serve.Given as goal

abbrev pub invariant-loop-i : goal.invariant-loop-i
invariant-loop-i g l =
    Going (setting g.S.Symbol.kind g.S.Carried.carriage l.codes (memory_of l.initial.words l.initial.sides)) (length l.initial.tables) (take l.i l.calls) (take l.i l.log) l.first l.second (length l.tables)

use Rattle.search.specs.Loads.{Loaded}
use Rattle.search.specs.Rows.{KeptBelow}
use Rattle.search.proofs.heard.Heard.load_rows.Given as goal

abbrev pub invariant-loop-r : goal.invariant-loop-r
invariant-loop-r g l =
    Loaded g.S.Symbol.kind (g.C.Rows.matrix l.self.code.now) l.self.received.now l.self.table.now l.words l.sides l.counts l.r
    × KeptBelow l.kept l.words l.r

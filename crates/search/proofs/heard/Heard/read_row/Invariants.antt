use Rattle.std.proofs.Common.{◌≡◌, length}
use Rattle.search.specs.Rows.{Noted}
use Rattle.search.specs.Searches.{marks_in}
use Rattle.search.proofs.Loading.{Reading}
use Rattle.search.proofs.heard.Heard.read_row.Given as goal

abbrev pub invariant-loop-c : goal.invariant-loop-c
invariant-loop-c g l =
    Reading g.S.Symbol.kind l.self.table.now (marks_in (g.C.Rows.matrix l.self.code.now) l.self.received.now) l.yielded l.line l.side l.lost
    × Noted l.initial.kept l.kept l.r l.line
    × (length l.kept ≡ 2048)

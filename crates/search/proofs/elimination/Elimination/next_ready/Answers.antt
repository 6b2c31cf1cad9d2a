use Rattle.std.proofs.Common.{None, sym, subst}
use Rattle.bits.specs.Sets.{row}
use Rattle.method.specs.Sets.{meet}
use Rattle.method.specs.Method.{ready, blank}
use Rattle.method.proofs.Marks.{lowest_some}
use Rattle.policies.specs.Shown.{marks_of, shown}
use Rattle.search.specs.Steps.{Ready}
use Rattle.search.specs.View.{rows_of}
use Rattle.search.proofs.Lines.{part_at}
use Rattle.search.proofs.Tallies.{lowest_ready, some_part, lone}
use Rattle.search.proofs.elimination.Elimination.next_ready.Goals as goal

pub returns-in_err-r : goal.returns-in_err-r
returns-in_err-r g c =
    let e = c.args.self.now in
    subst (Ready g.S.Symbol.kind (shown e.active) (rows_of g.S.Symbol.kind e)) (sym c.from_residual.ensures)
    (lowest_ready g.S.Symbol.kind c.requires.tallied None c.in_err-r.ensures)

pub returns-in_err-c : goal.returns-in_err-c
returns-in_err-c g c =
    let e = c.args.self.now in
    let K = g.S.Symbol.kind in
    let r = c.in_ok-r.r in
    let is_ready = c.in_ok-r.ensures in
    let low = (lowest_some (ready (shown e.active)) (blank K) (rows_of K e) r (lowest_ready K c.requires.tallied _ is_ready)).1 in
    absurd (some_part K c.requires.tallied r is_ready (meet (marks_of e.active.width (row e.words.now r)) (shown e.active)) (part_at K e r low) c.in_err-c.ensures)

pub returns : goal.returns
returns g c =
    let e = c.args.self.now in
    let K = g.S.Symbol.kind in
    let r = c.in_ok-r.r in
    let is_ready = c.in_ok-r.ensures in
    let low = (lowest_some (ready (shown e.active)) (blank K) (rows_of K e) r (lowest_ready K c.requires.tallied _ is_ready)).1 in
    lone K c.requires.tallied r c.in_ok-c.c is_ready (meet (marks_of e.active.width (row e.words.now r)) (shown e.active)) (part_at K e r low) c.in_ok-c.ensures

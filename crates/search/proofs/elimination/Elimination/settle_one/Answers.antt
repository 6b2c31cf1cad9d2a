use Rattle.std.proofs.Common.{None, Some, sym, ap, ◌∙◌, arith}
use Rattle.method.specs.Sets.{lowest}
use Rattle.method.specs.Method.{holder, blank, settle_at}
use Rattle.method.proofs.Marks.{lowest_some}
use Rattle.policies.specs.Shown.{shown}
use Rattle.search.specs.View.{rows_of, bare}
use Rattle.search.proofs.Lines.{length_lines, lowest_holder}
use Rattle.search.proofs.elimination.Elimination.settle_one.Goals as goal

pub use_row-requires-clause-row : goal.use_row-requires-clause-row
use_row-requires-clause-row g c =
    let e = c.args.self.now in
    let K = g.S.Symbol.kind in
    let found = lowest_holder K e c.args.c (shown c.holders-held.result) c.requires.column c.holders-held.ensures (Some c.in-Some.r) (c.in-Some.ensures ∙ ap (lowest (λ b. b)) c.both.ensures) in
    omega (arith, (lowest_some (holder c.args.c) (blank K) (rows_of K e) c.in-Some.r found).1, length_lines K e.active.width e.words.now e.sides.now e.uses)

pub returns-in-Some-clause-state : goal.returns-in-Some-clause-state
returns-in-Some-clause-state g c =
    let e = c.args.self.now in
    let K = g.S.Symbol.kind in
    let found = lowest_holder K e c.args.c (shown c.holders-held.result) c.requires.column c.holders-held.ensures (Some c.in-Some.r) (c.in-Some.ensures ∙ ap (lowest (λ b. b)) c.both.ensures) in
    c.use_row.ensures.state ∙ sym (ap (λ o. settle_at K c.args.c o (bare K e)) found)

pub returns-in-None-clause-state : goal.returns-in-None-clause-state
returns-in-None-clause-state g c =
    let e = c.args.self.now in
    let K = g.S.Symbol.kind in
    let none = lowest_holder K e c.args.c (shown c.holders-held.result) c.requires.column c.holders-held.ensures None (c.in-None.ensures ∙ ap (lowest (λ b. b)) c.both.ensures) in
    (λ i. record { rows = rows_of K e; active = shown e.active; pivots = e.pivots.items; free = c.push.ensures.items i; additions = e.additions; policy = tt })
    ∙ sym (ap (λ o. settle_at K c.args.c o (bare K e)) none)

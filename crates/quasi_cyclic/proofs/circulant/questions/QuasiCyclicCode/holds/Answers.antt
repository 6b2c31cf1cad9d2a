use Rattle.std.proofs.Common.{◌/◌, ◌%◌, eqb, ℤ, pos, negsuc, sym, ap, ◌∙◌, arith, rules, w16, SFits}
use Rattle.std.proofs.lemmas.Int.{to_z-of_z}
use Rattle.codes.specs.Matrix.{member}
use Rattle.quasi_cyclic.specs.Entries.{entry_fits, shift_of, turned}
use Rattle.quasi_cyclic.proofs.Picks.{shift_fits}
use Rattle.quasi_cyclic.proofs.Crossings.{crosses_none, crosses_empty, crosses_filled}
use Rattle.quasi_cyclic.proofs.circulant.questions.QuasiCyclicCode.holds.Goals as goal

pub returns-in_default : goal.returns-in_default
returns-in_default c =
    let line = c.line-line in
    crosses_none c.args.self.now.squares.z c.args.r c.args.c line.ensures.some line.result.now c.in_default.ensures.lookup.3 ∙ ap (member c.args.c) line.ensures.row

pub returns-in_default-shift : goal.returns-in_default-shift
returns-in_default-shift c =
    let line = c.line-line in
    let e : ℤ = c.in-Some.e.now in
    let f : SFits w16 e = search rules in
    let at = c.in-Some.ensures.lookup.3 in
    crosses_empty c.args.self.now.squares.z c.args.r c.args.c line.ensures.some line.result.now e at.0 (at.1 (negsuc 0)) (sym c.in_default-shift.is ∙ c.shift.ensures ∙ ap shift_of (to_z-of_z w16 e f)) ∙ ap (member c.args.c) line.ensures.row

pub turned-requires-clause-within : goal.turned-requires-clause-within
turned-requires-clause-within c =
    let e : ℤ = c.in-Some.e.now in
    let f : SFits w16 e = search rules in
    let at = c.in-Some.ensures.lookup.3 in
    let line = c.line-line in
    let right = ap (entry_fits c.args.self.now.squares.z) (at.1 (pos 0)) ∙ line.ensures.right (c.args.c / c.args.self.now.squares.z) at.0 in
    omega (arith, c.from.ensures, shift_fits c.args.self.now.squares.z c.in-Some-shift.s e right (c.in-Some-shift.ensures ∙ ap shift_of (to_z-of_z w16 e f)))

pub returns : goal.returns
returns c =
    let line = c.line-line in
    let z = c.args.self.now.squares.z in
    let e : ℤ = c.in-Some.e.now in
    let f : SFits w16 e = search rules in
    let at = c.in-Some.ensures.lookup.3 in
    ap (λ t. eqb t (c.args.c % z)) (c.turned.ensures ∙ ap (turned z c.args.r) c.from.ensures)
    ∙ crosses_filled z c.args.r c.args.c line.ensures.some line.result.now e at.0 (at.1 (negsuc 0)) c.in-Some-shift.s (c.in-Some-shift.ensures ∙ ap shift_of (to_z-of_z w16 e f))
    ∙ ap (member c.args.c) line.ensures.row

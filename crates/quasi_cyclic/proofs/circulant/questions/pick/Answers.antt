use Rattle.std.proofs.Common.{◌≡◌, ℕ, suc, ◌+◌, ◌*◌, get_or, drop, ℤ, pos, Some, sym, ap, ◌∙◌, arith, w16, SFits, rules}
use Rattle.std.specs.List.{slice_get}
use Rattle.std.proofs.lemmas.Int.{to_z-of_z}
use Rattle.quasi_cyclic.specs.Entries.{shift_of, turned, line_row}
use Rattle.quasi_cyclic.proofs.Picks.{shift_fits, pick_here, pick_next, pick_skip, pick_end}
use Rattle.quasi_cyclic.proofs.circulant.questions.pick.Goals as goal
use Rattle.quasi_cyclic.proofs.circulant.questions.pick.Goals.{in-Some+else-left-eq0, in_default}

pub returns-then-left-eq0 : goal.returns-then-left-eq0
returns-then-left-eq0 c =
    let es = c.args.line.now in
    let j : ℕ = c.loop-j.j in
    let e : ℤ = get_or es j (pos 0) in
    let f : SFits w16 e = search rules in
    let row = line_row c.args.z c.args.r (j * c.args.z) (drop j es) in
    ap (λ v. Some (j * c.args.z + v)) (c.turned.ensures ∙ ap (turned c.args.z c.args.r) c.from.ensures)
    ∙ sym (pick_here c.args.z c.args.r j es c.loop-j-test.true c.in-Some.s (c.in-Some.ensures ∙ ap shift_of (to_z-of_z w16 e f)))
    ∙ ap (slice_get row) (sym c.if-left-eq0.true)
    ∙ c.loop-j.invariant

pub loop-j-preserved : goal.loop-j-preserved
loop-j-preserved c =
    let es = c.args.line.now in
    let j : ℕ = c.loop-j.j in
    let e : ℤ = get_or es j (pos 0) in
    let f : SFits w16 e = search rules in
    let row = line_row c.args.z c.args.r (j * c.args.z) (drop j es) in
    let rest = line_row c.args.z c.args.r ((j + 1) * c.args.z) (drop (j + 1) es) in
    elim c.match-shift.branch [
      | in-Some+else-left-eq0 w ↦
          let up : suc c.match-shift.left ≡ c.loop-j.left = omega (arith, w.left-is, w.if-left-eq0.false) in
          sym (pick_next c.args.z c.args.r j es c.loop-j-test.true w.in-Some.s c.match-shift.left (w.in-Some.ensures ∙ ap shift_of (to_z-of_z w16 e f)))
          ∙ ap (slice_get row) up
          ∙ c.loop-j.invariant
      | in_default w ↦
          ap (slice_get rest) w.left-is
          ∙ sym (pick_skip c.args.z c.args.r j es c.loop-j-test.true c.loop-j.left (w.in_default.ensures ∙ ap shift_of (to_z-of_z w16 e f)))
          ∙ c.loop-j.invariant
    ]

pub returns : goal.returns
returns c =
    sym (pick_end c.args.z c.args.r c.loop-j.j c.loop-j.left c.args.line.now c.loop-j-test.false) ∙ c.loop-j.invariant

pub turned-requires-clause-within : goal.turned-requires-clause-within
turned-requires-clause-within c =
    let es = c.args.line.now in
    let j : ℕ = c.loop-j.j in
    let e : ℤ = get_or es j (pos 0) in
    let f : SFits w16 e = search rules in
    omega (arith, c.from.ensures, shift_fits c.args.z c.in-Some.s e (c.requires.right j c.loop-j-test.true) (c.in-Some.ensures ∙ ap shift_of (to_z-of_z w16 e f)))

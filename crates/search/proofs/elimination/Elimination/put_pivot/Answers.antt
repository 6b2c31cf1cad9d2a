use Rattle.std.proofs.Common.{ℕ, ◌<◌, false, length, get_or, sym, refl, subst, arith}
use Rattle.policies.specs.Shown.{shown}
use Rattle.policies.proofs.Marks.{shown_below}
use Rattle.search.specs.View.{rows_of}
use Rattle.search.proofs.Keeping.{kept_next}
use Rattle.search.proofs.Lines.{length_lines, unused_at, same_width, lines_wide}
use Rattle.search.proofs.Rooms.{fewer_active, below_push}
use Rattle.search.proofs.Tallies.{held_few, held_ready, held_row, held_some, tallied_next, tallied_moved, part_stays}
use Rattle.search.proofs.elimination.Elimination.put_pivot.Goals as goal

pub lower-requires : goal.lower-requires
lower-requires g c =
    let held = c.active_holders-held.result in
    let is = c.active_holders-held.ensures in
    record {
      few = held_few c.requires.going held c.args.c is c.requires.active;
      width = held_ready c.requires.going held c.args.c is c.requires.active;
      some = held_some c.requires.going held c.args.c is c.requires.active;
    }

pub overflow_cast-c : goal.overflow_cast-c
overflow_cast-c g c =
    let e = c.args.self.now in
    omega (arith, shown_below e.active c.args.c c.requires.active, e.active.narrow)

pub push-requires : goal.push-requires
push-requires g c =
    let e = c.args.self.now in
    (omega arith, omega (arith, e.room, fewer_active (shown e.active) (shown c.leave.new.self) c.args.c c.leave.ensures c.requires.active))

pub invariant_of-self : goal.invariant_of-self
invariant_of-self g c =
    let e = c.args.self.now in
    let wide = same_width e.active c.leave.new.self c.args.c false c.leave.ensures in
    record {
      high = e.high;
      few = e.few;
      within = e.within;
      long = e.long;
      room = omega (arith, e.room, c.push.ensures.len, fewer_active (shown e.active) (shown c.leave.new.self) c.args.c c.leave.ensures c.requires.active);
      low = subst (λ xs. (i : ℕ) → i < length xs → get_or xs i 0 < c.leave.new.self.width) (sym c.push.ensures.items)
          (below_push c.leave.new.self.width e.pivots.items c.args.c (λ i l. omega (arith, e.low i l, wide)) (omega (arith, shown_below e.active c.args.c c.requires.active, wide)));
    }

pub returns-clause-going : goal.returns-clause-going
returns-clause-going g c =
    let e = c.args.self.now in
    let K = g.S.Symbol.kind in
    let rows = rows_of K e in
    let held = c.active_holders-held.result in
    let high = length_lines K e.active.width e.words.now e.sides.now e.uses in
    let fewer = fewer_active (shown e.active) (shown c.leave.new.self) c.args.c c.leave.ensures c.requires.active in
    record {
      room = record { added = omega (arith, c.requires.going.room.added, fewer); unfreed = c.requires.going.room.unfreed };
      tallied = tallied_moved K (lines_wide K e c.leave.new.self c.args.c c.leave.ensures) c.leave.ensures
          (tallied_next K rows rows (shown e.active) (shown held) (shown e.uses.unused) c.args.c e.tally c.lower.new.self c.requires.going.tallied c.lower.ensures
          c.requires.active refl (held_row c.requires.going held c.args.c c.active_holders-held.ensures c.requires.active)
          (λ q l d. part_stays K rows (shown e.active) c.args.c q d) (λ q l. unused_at K e.active.width e.words.now e.sides.now e.uses q (omega (arith, high))) (λ q l h. refl));
      kept = kept_next c.args.c c.requires.going.kept refl c.leave.ensures (λ d q h l. refl);
    }

pub returns-clause-state : goal.returns-clause-state
returns-clause-state g c =
    let e = c.args.self.now in
    λ i. record {
      rows = lines_wide g.S.Symbol.kind e c.leave.new.self c.args.c c.leave.ensures i;
      active = c.leave.ensures i;
      pivots = c.push.ensures.items i;
      free = e.free.items;
      additions = e.additions;
      policy = tt;
    }

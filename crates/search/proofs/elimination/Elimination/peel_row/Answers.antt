use Rattle.std.proofs.Common.{◌≡◌, ℕ, ◌<◌, false, length, get_or, sym, ap, ◌∙◌, subst, arith}
use Rattle.method.specs.Sets.{has}
use Rattle.method.specs.Method.{unused, use_row, row_of}
use Rattle.policies.specs.Shown.{shown}
use Rattle.policies.proofs.Marks.{shown_below}
use Rattle.search.specs.View.{rows_of}
use Rattle.search.specs.Steps.{Lowered}
use Rattle.search.specs.Rows.{Kept}
use Rattle.search.proofs.Keeping.{kept_next, holding_stays}
use Rattle.search.proofs.Lines.{length_lines, unused_at, use_length, same_width}
use Rattle.search.proofs.Rooms.{fewer_active}
use Rattle.search.proofs.Tallies.{held_few, held_ready, held_row, held_some, tallied_used, tallied_moved}
use Rattle.search.proofs.elimination.Elimination.peel_row.Goals as goal

pub use_row-requires-clause-row : goal.use_row-requires-clause-row
use_row-requires-clause-row g c =
    let e = c.args.self.now in
    omega (arith, c.requires.ready.within, length_lines g.S.Symbol.kind e.active.width e.words.now e.sides.now e.uses)

pub use_row-requires-clause-column : goal.use_row-requires-clause-column
use_row-requires-clause-column g c = shown_below c.args.self.now.active c.args.c c.requires.ready.is_active

pub lower-requires : goal.lower-requires
lower-requires g c =
    let held = c.active_holders-held.result in
    let is = c.active_holders-held.ensures in
    let on = c.requires.ready.is_active in
    record {
      few = held_few c.requires.going held c.args.c is on;
      width = ap (λ t. t.ready.width) c.use_row.ensures.tally ∙ held_ready c.requires.going held c.args.c is on;
      some = λ q h. subst (λ t. 0 < get_or t.counts q 0) (sym c.use_row.ensures.tally) (held_some c.requires.going held c.args.c is on q h);
    }

pub returns-clause-going : goal.returns-clause-going
returns-clause-going g c =
    let e = c.args.self.now in
    let e' = c.use_row.new.self in
    let K = g.S.Symbol.kind in
    let rows = rows_of K e in
    let held = c.active_holders-held.result in
    let is = c.use_row.ensures in
    let on = c.requires.ready.is_active in
    let high = length_lines K e'.active.width e'.words.now e'.sides.now e'.uses in
    let rows_are : rows_of K e' ≡ use_row K c.args.r c.args.c rows = ap (λ s. s.rows) is.state in
    let active_is = ap (λ s. s.active) is.state in
    let low : (q : ℕ) → q < length rows → q < length e'.sides.now = λ q l. omega (arith, high, ap length rows_are, use_length K rows c.args.r c.args.c) in
    let unuseds : (q : ℕ) → q < length rows → unused (row_of K (use_row K c.args.r c.args.c rows) q) ≡ has (shown e'.uses.unused) q =
    λ q l. ap (λ rs. unused (row_of K rs q)) (sym rows_are) ∙ unused_at K e'.active.width e'.words.now e'.sides.now e'.uses q (low q l) in
    record {
      room = record {
        added = omega (arith, c.requires.going.room.added, is.few, fewer_active (shown e.active) (shown e'.active) c.args.c active_is on);
        unfreed = ap (λ v. length v.items) is.free ∙ c.requires.going.room.unfreed;
      };
      tallied = tallied_moved K rows_are active_is
          (tallied_used K rows (shown e.active) (shown held) (shown e'.uses.unused) c.args.r c.args.c e.tally c.lower.new.self c.requires.going.tallied
          (subst (λ t. Lowered (shown held) (shown e'.uses.unused) t c.lower.new.self) is.tally c.lower.ensures) c.requires.ready
          (held_row c.requires.going held c.args.c c.active_holders-held.ensures on) unuseds);
      kept = subst (λ ks. Kept ks.now e'.words.now (length e'.sides.now) (shown e'.active)) (sym is.kept)
          (kept_next c.args.c c.requires.going.kept is.memory.high active_is
          (holding_stays K e.active.width e'.active.width e.words.now e'.words.now e.sides.now e'.sides.now e.uses e'.uses (shown e.active) c.args.r c.args.c c.requires.ready rows_are
          (same_width e.active e'.active c.args.c false active_is) is.memory.high (λ d h. shown_below e.active d h)));
    }

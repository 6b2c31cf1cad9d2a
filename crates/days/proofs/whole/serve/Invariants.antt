use Rattle.std.proofs.Common.{◌≡◌, ◌*◌, List, [], length, take, Some}
use Rattle.codes.specs.Matrix.{height}
use Rattle.receiver.specs.History.{Opened, Event}
use Rattle.receiver.specs.Stands.{Stands}
use Rattle.receiver.specs.View.{model}
use Rattle.days.specs.Days.{now_of, day_on, AllAnswer, Cleared}
use Rattle.days.proofs.whole.serve.Given as goal

abbrev pub invariant-loop-i : goal.invariant-loop-i
invariant-loop-i g l =
    (h : List (Event g.row.S.Denot))
    × (day_on g.S.Symbol.kind g.P.Policy.choice (g.C.Rows.matrix l.code) (length l.initial.words) (length l.initial.sides) (Some (now_of (model l.initial.desk.block) l.initial.policy l.initial.desk.held [])) (take l.i l.orders) (take l.i l.log)
    ≡ Some (now_of (model l.desk.block) l.policy l.desk.held h))
    × ((o : Opened) → Stands g.S.Symbol.kind o [] (model l.initial.desk.block) → Stands g.S.Symbol.kind o h (model l.desk.block))
    × AllAnswer g.S.Symbol.kind g.P.Policy.choice (g.C.Rows.matrix l.code) (length l.initial.words) (length l.initial.sides) (Some (now_of (model l.initial.desk.block) l.initial.policy l.initial.desk.held [])) (take l.i l.orders) (take l.i l.log)
    × Cleared 0 (8 * height (g.C.Rows.matrix l.code)) l.initial.words l.words
    × Cleared g.S.Symbol.kind.zero (height (g.C.Rows.matrix l.code)) l.initial.sides l.sides

use Rattle.std.proofs.Common.{sym}
use Rattle.policies.proofs.Marks.{turned_shown, shown_past}
use Rattle.policies.proofs.columns.Columns.turn.Goals as goal

pub returns-then-c-self : goal.returns-then-c-self
returns-then-c-self c = turned_shown c.args.self.now c.args.c c.put.new.words c.flip_if.new.words c.if-c-self.true c.put.auto.words c.put.ensures c.args.on c.flip_if.ensures

pub returns-else-c-self : goal.returns-else-c-self
returns-else-c-self c = sym (shown_past c.args.self.now c.args.c c.args.on c.if-c-self.false)

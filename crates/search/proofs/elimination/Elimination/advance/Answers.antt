use Rattle.std.proofs.Common.{sym, refl, ap, ◌∙◌}
use Rattle.policies.specs.Shown.{shown}
use Rattle.search.specs.View.{view, with_policy}
use Rattle.search.proofs.Lines.{map_unused}
use Rattle.search.proofs.Rooms.{fewer_active}
use Rattle.search.proofs.Stepping.{step_use, step_name, none_active, named_active, never_none}
use Rattle.search.proofs.elimination.Elimination.advance.Goals as goal

pub returns-in-Some-clause-stepped : goal.returns-in-Some-clause-stepped
returns-in-Some-clause-stepped g c =
    let e = c.args.self.now in
    let K = g.S.Symbol.kind in
    let choice = g.P.Policy.choice (g.C.Rows.matrix c.args.code.now) in
    let p = c.args.policy.now in
    let f = c.in-Some.ensures in
    let st = c.peel_row.ensures.state in
    record {
      is = ap (with_policy p) st ∙ sym (step_use K choice (view K e p) c.in-Some.c f.is_active c.in-Some.r f.row f.only);
      fewer = fewer_active (shown e.active) (shown c.peel_row.new.self.active) c.in-Some.c (ap (λ s. s.active) st) f.is_active;
    }

pub returns-then-is_none-clause-stepped : goal.returns-then-is_none-clause-stepped
returns-then-is_none-clause-stepped g c = record { same = refl; idle = none_active (shown c.args.self.now.active) c.least.result c.least.ensures c.if-is_none.ensures }

pub put_pivot-requires-clause-active : goal.put_pivot-requires-clause-active
put_pivot-requires-clause-active g c =
    let e = c.args.self.now in
    let k = g.C.Rows.matrix c.args.code.now in
    named_active (g.P.Policy.choice k) (g.met.P.Policy.names k) c.args.policy.now c.name.new.self (shown e.active) (shown e.uses.unused) c.in-Some-name.c c.in-Some-name.ensures

pub returns-clause-stepped : goal.returns-clause-stepped
returns-clause-stepped g c =
    let e = c.args.self.now in
    let K = g.S.Symbol.kind in
    let k = g.C.Rows.matrix c.args.code.now in
    let choice = g.P.Policy.choice k in
    let p = c.args.policy.now in
    let q = c.name.new.self in
    let asked = c.in-Some-name.ensures in
    let h = named_active choice (g.met.P.Policy.names k) p q (shown e.active) (shown e.uses.unused) c.in-Some-name.c asked in
    let st = c.put_pivot.ensures.state in
    let u = sym (map_unused K e.active.width e.words.now e.sides.now e.uses e.high) in
    record {
      is = ap (with_policy q) st ∙ sym (step_name K choice (view K e p) c.in-Some-name.c h q c.in_default.ensures (asked ∙ ap (choice p (shown e.active)) u));
      fewer = fewer_active (shown e.active) (shown c.put_pivot.new.self.active) c.in-Some-name.c (ap (λ s. s.active) st) h;
    }

pub returns-in_default-name-clause-stepped : goal.returns-in_default-name-clause-stepped
returns-in_default-name-clause-stepped g c =
    let e = c.args.self.now in
    let k = g.C.Rows.matrix c.args.code.now in
    absurd (never_none (g.P.Policy.choice k) (g.met.P.Policy.names k) c.args.policy.now c.name.new.self (shown e.active) (shown e.uses.unused) c.least.result c.least.ensures c.if-is_none.ensures c.in_default-name.ensures)

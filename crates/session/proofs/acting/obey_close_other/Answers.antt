use mathlib.Core.Bool.{Bool-set}
use Rattle.std.proofs.Common.{rules, sym}
use Rattle.std.proofs.Math.Logic.{∥∥₁_elim}
use Rattle.session.proofs.Acts.{no_other, not_handed, closed_other}
use Rattle.session.proofs.acting.obey_close_other.Goals as goal

pub returns-in_default-clause-acted : goal.returns-in_default-clause-acted
returns-in_default-clause-acted g c ps memory = no_other _ _ _ _ (sym c.in_default.ensures.value)

pub returns-then-alike-clause-acted : goal.returns-then-alike-clause-acted
returns-then-alike-clause-acted g c ps memory = not_handed _ _ _ _ c.in-Some.permit (sym c.in-Some.ensures.value) c.if-alike.ensures

pub close_under-entry-requires : goal.close_under-entry-requires
close_under-entry-requires g c = ∥∥₁_elim c.args.desk.now.holding (Bool-set _ _) (λ held. search (rules, held))

pub returns-clause-acted : goal.returns-clause-acted
returns-clause-acted g c ps memory = closed_other _ _ _ _ _ c.in-Some.permit _ _ (sym c.in-Some.ensures.value) c.if-alike.ensures c.close_under-entry.ensures

use Rattle.receiver.specs.View.{model}
use Rattle.days.proofs.Clearing.{cleared_words, cleared_sides}
use Rattle.days.proofs.Obeying.{solved_with, solved_without}
use Rattle.days.proofs.obey.obey_solve.Goals as goal

pub returns-in-None-clause-obeyed : goal.returns-in-None-clause-obeyed
returns-in-None-clause-obeyed g c =
    rw c.replace.ensures.after (rw c.report-report.ensures (solved_with g.S.Symbol.kind g.P.Policy.choice _ _ _ _ _ _ _ _ _ c.in-Ok.permit c.args.desk.now.held c.in-Ok.ensures.step c.in-Ok.ensures.history))

pub returns-in-Err-clause-obeyed : goal.returns-in-Err-clause-obeyed
returns-in-Err-clause-obeyed g c =
    solved_without g.S.Symbol.kind g.P.Policy.choice _ _ _ _ _ _ _ _ _ _ _ c.in-Err.ensures.step c.in-Err.ensures.history

pub returns-in-None-clause-words : goal.returns-in-None-clause-words
returns-in-None-clause-words g c = cleared_words g.S.Symbol.kind g.P.Policy.choice (g.C.Rows.matrix c.args.code.now) (model c.args.desk.now.block) c.args.policy.now c.args.words.now c.args.sides.now _ c.in-Ok.ensures.step

pub returns-in-None-clause-sides : goal.returns-in-None-clause-sides
returns-in-None-clause-sides g c = cleared_sides g.S.Symbol.kind g.P.Policy.choice (g.C.Rows.matrix c.args.code.now) (model c.args.desk.now.block) c.args.policy.now c.args.words.now c.args.sides.now _ c.in-Ok.ensures.step

pub returns-in-Err-clause-words : goal.returns-in-Err-clause-words
returns-in-Err-clause-words g c = cleared_words g.S.Symbol.kind g.P.Policy.choice (g.C.Rows.matrix c.args.code.now) (model c.args.desk.now.block) c.args.policy.now c.args.words.now c.args.sides.now _ c.in-Err.ensures.step

pub returns-in-Err-clause-sides : goal.returns-in-Err-clause-sides
returns-in-Err-clause-sides g c = cleared_sides g.S.Symbol.kind g.P.Policy.choice (g.C.Rows.matrix c.args.code.now) (model c.args.desk.now.block) c.args.policy.now c.args.words.now c.args.sides.now _ c.in-Err.ensures.step

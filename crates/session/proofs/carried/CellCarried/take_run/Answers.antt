use Rattle.session.proofs.Holds.{run_held}
use Rattle.session.proofs.carried.CellCarried.take_run.Goals as goal

pub returns : goal.returns
returns c = record {
  does = c.run.ensures.step;
  history = c.run.ensures.history;
  holding = run_held _ _ _ _ 0 0 _ c.run.ensures.step;
}

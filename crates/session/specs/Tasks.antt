-- What a task that solves has done.
--
--   SolvedStill   the block lent to the task is solved by the task's policy and memory, and is lent to it still
use Rattle.std.specs.Prelude.{◌≡◌, length, Result}
use Rattle.symbols.specs.Kinds.{Kind}
use Rattle.codes.specs.Matrix.{Matrix}
use Rattle.receiver.specs.declared.permit.Permit.{Permit}
use Rattle.receiver.specs.declared.fault.Unsolved.{Unsolved}
use Rattle.receiver.specs.View.{model}
use Rattle.session.specs.declared.solving.SolveTask.{SolveTask}
use Rattle.session.specs.Sides.{Solved}

pub record SolvedStill {S : Type 0} (K : Kind S) (k : Matrix) (s : SolveTask S) (r : Result Permit Unsolved) (t : SolveTask S) : Type 0 where
  pub solved : Solved K k s.name (length s.words.now) (length s.sides.now) (model s.block.now) r (model t.block.now)
  pub lent : t.block.ghost_name ≡ s.block.ghost_name

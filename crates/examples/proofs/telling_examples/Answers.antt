use Rattle.std.proofs.Common.{refl}
use Rattle.method.specs.Method.{step, steps, settle, final, answer, method}
use Rattle.examples.proofs.telling_examples.Goals as goal

pub returns : goal.returns
unfolding step steps settle final answer method
returns c = record {
  settles_lowest = λ p. refl;
  mistaken_settles_highest = λ p. refl;
  heaviest_lowest = λ p. refl;
  mistaken_heaviest_highest = λ p. refl;
  component_lowest = λ p. refl;
  mistaken_component_highest = λ p. refl;
  heaviest_by_unused = refl;
  mistaken_heaviest_by_all = refl;
  joined_by_unused = refl;
  mistaken_joined_by_all = refl;
}

use Rattle.std.proofs.Common.{not, ◌∷◌, length, refl, ap, arith}
use Rattle.std.proofs.lemmas.Bool.{cond-false, eq-eqb}
use Rattle.method.specs.Method.{step, steps, settle, final, answer, method}
use Rattle.examples.proofs.worked_examples.Goals as goal

pub returns : goal.returns
unfolding step steps settle final answer method
returns c = record {
  nothing_missing = λ p. refl;
  peeled = λ p. refl;
  stalled_first = λ p. refl;
  stalled_heaviest = λ p. refl;
  stalled_component = λ p. refl;
  not_settled = λ p. refl;
  contradicted = λ p. refl;
  all_missing = λ p. refl;
  no_codeword = λ p. refl;
  circulant_rows = refl;
  interleaved_rows = refl;
  header_read = λ cell long. cond-false _ _ _ (ap not (eq-eqb (length (0x00 ∷ 0x50 ∷ 0x00 ∷ 0x07 ∷ cell)) 68 (omega arith)));
}

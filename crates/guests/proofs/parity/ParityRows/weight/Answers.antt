use Rattle.std.proofs.Common.{sym, ap, ◌∙◌}
use Rattle.std.proofs.lemmas.List.FromFn.{length-range_with_len}
use Rattle.codes.specs.Matrix.{weight}
use Rattle.guests.specs.Parities.{parity_matrix}
use Rattle.guests.proofs.parity.ParityRows.weight.Goals as goal

pub returns-then-r-eq0 : goal.returns-then-r-eq0
returns-then-r-eq0 c = let n = c.args.self.now.n in sym (ap (weight (parity_matrix n)) c.if-r-eq0.true ∙ length-range_with_len 0 n)

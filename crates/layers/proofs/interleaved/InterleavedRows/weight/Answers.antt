use Rattle.std.proofs.Common.{sym, ap, ◌∙◌}
use Rattle.codes.specs.Matrix.{weight}
use Rattle.layers.proofs.Interleavings.{weight_turned}
use Rattle.layers.proofs.interleaved.InterleavedRows.weight.Goals as goal

pub returns : goal.returns
returns g c =
    let x = c.args.self.now in
    let k = g.C.Rows.matrix x.below in
    c.weight.ensures ∙ ap (weight k) c.turn.ensures ∙ sym (weight_turned x.squares.a x.squares.b x.squares.z k x.fit c.args.r)

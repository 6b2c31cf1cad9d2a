use Rattle.std.proofs.Common.{rules, ◌≡◌, sym, ap, ◌∙◌}
use Rattle.std.specs.Option.{option_map}
use Rattle.codes.specs.Matrix.{column_at}
use Rattle.layers.specs.Layers.{turn}
use Rattle.layers.proofs.Interleavings.{column_turned}
use Rattle.layers.proofs.interleaved.InterleavedRows.column.Goals as goal

pub returns : goal.returns
returns g c =
    let x = c.args.self.now in
    let k = g.C.Rows.matrix x.below in
    let turned : c.map.result ≡ option_map (turn x.squares.b x.squares.z) c.column.result = search rules in
    turned
    ∙ ap (option_map (turn x.squares.b x.squares.z)) (c.column.ensures ∙ ap (λ s. column_at k s c.args.i) c.turn.ensures)
    ∙ sym (column_turned x.squares.a x.squares.b x.squares.z k x.fit c.args.r c.args.i)

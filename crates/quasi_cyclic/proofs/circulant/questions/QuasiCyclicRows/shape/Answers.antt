use Rattle.std.proofs.Common.{◌*◌, length, sym, ◌∙◌, rules}
use Rattle.codes.specs.Tables.{table_height}
use Rattle.quasi_cyclic.specs.Entries.{line_row, line_of}
use Rattle.quasi_cyclic.specs.EntryLaws.{sizes, circulant_ones}
use Rattle.quasi_cyclic.proofs.circulant.questions.QuasiCyclicRows.shape.Goals as goal

pub returns : goal.returns
returns c =
    let x = c.args.self.now in
    search (rules, sym (table_height (x.squares.a * x.squares.z) (x.squares.b * x.squares.z) (λ r. line_row x.squares.z r 0 (line_of x.squares.b x.squares.z x.entries.now r))), x.counted ∙ sym (circulant_ones x.squares.a x.squares.b x.squares.z x.entries.now (sizes x.squares.a x.squares.b x.squares.z (length x.entries.now) x.sized).whole))

use Rattle.std.proofs.Common.{◌∙◌}
use Rattle.receiver.proofs.Zeroing.{all_missing}
use Rattle.receiver.proofs.block.Block.begin.Goals as goal

pub returns : goal.returns
returns g c =
    let b = c.args.self.now in
    let marks = c.clear_missing.ensures.marks in
    let table = c.clear_missing.ensures.table ∙ all_missing g.S.Symbol.kind.zero b.marks.n b.table.now b.marks.few b.fits in
    record {
      lent = c.clear_missing.ensures.lent;
      values = λ i. record {
        number = (marks i).number;
        stamp = (marks i).stamp;
        n = (marks i).n;
        table = table i;
        received = (marks i).received;
        out = (marks i).out;
        refused = (marks i).refused;
      };
    }

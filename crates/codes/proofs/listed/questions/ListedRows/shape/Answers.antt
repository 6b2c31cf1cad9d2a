use Rattle.std.proofs.Common.{sym, rules}
use Rattle.codes.specs.RecordLaws.{listed_ones}
use Rattle.codes.specs.Records.{columns_of}
use Rattle.codes.specs.Tables.{table_height}
use Rattle.codes.proofs.listed.questions.ListedRows.shape.Goals as goal

pub returns : goal.returns
returns c =
    let x = c.args.self.now in
    search (rules, sym (table_height x.m x.n (columns_of x.records.now)), sym (listed_ones x.m x.n x.records.now x.sized x.rising))

use Rattle.std.proofs.Common.{length, sym, ap}
use Rattle.codes.specs.Records.{columns_of}
use Rattle.codes.specs.Tables.{table_past}
use Rattle.codes.proofs.listed.questions.ListedRows.weight.Goals as goal

pub returns-then-r-self : goal.returns-then-r-self
returns-then-r-self c = let x = c.args.self.now in sym (ap length (table_past x.m x.n (columns_of x.records.now) c.args.r c.if-r-self.true))

use Rattle.std.proofs.Common.{rules, length, ◌∙◌, arith}
use Rattle.search.proofs.Built.{lacking, lacking_missing}
use Rattle.search.proofs.heard.Heard.missing.Goals as goal

pub returns : goal.returns
returns g c =
    let received = c.args.self.now.received.now in
    c.passing.ensures (lacking received) (λ d b l p. search rules) ∙ lacking_missing (length c.args.self.now.table.now) received (omega (arith, (g.C.Rows.lawful c.args.self.now.code.now).few_columns, c.args.self.now.wide, c.args.self.now.each))

use Rattle.std.proofs.Common.{rules}
use Rattle.piles.specs.Piles.{pile_code}
use Rattle.session.proofs.Solves.{pile_told}
use Rattle.session.proofs.solving.solve_pile.Goals as goal

pub returns : goal.returns
returns g c =
    let told = pile_told g.S.Symbol.kind (pile_code c.args.pile.now) _ c.with_code.new.task c.with_code.result c.with_code.ensures in
    search (told.0, told.1, rules)

use Rattle.std.proofs.Common.{◌∙◌}
use Rattle.session.proofs.Playing.{wiped_all}
use Rattle.session.proofs.whole.empty.Goals as goal

pub returns : goal.returns
returns g c = c.wipe.ensures ∙ wiped_all g.S.Symbol.kind.zero c.args.symbols.now

use Rattle.std.proofs.Common.{rules}
use Rattle.packets.proofs.Figures.{quotient_is_figure}
use Rattle.packets.proofs.figure.reception_figure.Goals as goal

pub returns : goal.returns
returns c = search (rules, quotient_is_figure)

use Rattle.std.proofs.Common.{refl}
use Rattle.session.proofs.Playing.{turned_first, turned_second}
use Rattle.session.proofs.whole.turn.Goals as goal

pub returns-in-First : goal.returns-in-First
returns-in-First g c = turned_first _ _ _ _ _ _ _ _ _ c.in-First.is (c.ask.ensures.asked, record { begun = refl; block = refl; held = c.ask.ensures.other })

pub returns-in-Second : goal.returns-in-Second
returns-in-Second g c = turned_second _ _ _ _ _ _ _ _ _ c.in-Second.is (c.ask-in-Second.ensures.asked, record { begun = refl; block = refl; held = c.ask-in-Second.ensures.other })

use Rattle.method.proofs.Shortfall.{shortfall_by_places_alone}
use Rattle.method.proofs.shortfall_by_places_alone.Goals as goal

pub returns : goal.returns
returns g c = shortfall_by_places_alone _ g.S.Symbol.kind _ _ g.T.Symbol.kind _

use Rattle.std.proofs.Common.{refl}
use Rattle.search.proofs.Keeping.{four_holds}
use Rattle.search.proofs.kept.rows_kept.Goals as goal

pub returns : goal.returns
returns c = four_holds c.args.kept.now c.args.c _ _ _ _ refl refl refl refl

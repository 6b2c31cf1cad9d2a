use Rattle.search.proofs.Keeping.{four_shown}
use Rattle.search.proofs.kept.kept_for.Goals as goal

pub returns : goal.returns
returns c = four_shown c.args.kept.now c.rows_kept.result c.args.c c.args.m c.rows_kept.ensures c.requires.few

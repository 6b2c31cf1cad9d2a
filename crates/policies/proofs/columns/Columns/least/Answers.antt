use Rattle.policies.proofs.Marks.{lowest_marked}
use Rattle.policies.proofs.columns.Columns.least.Goals as goal

pub returns : goal.returns
returns c = let s = c.args.self.now in lowest_marked s.width s.words s.within c.least.result c.least.ensures

use Rattle.std.proofs.Common.{rules}
use Rattle.std.proofs.lemmas.Slice.Eq.{text_from_reads}
use Rattle.piles.proofs.policy.plain_policy.Goals as goal

pub returns-in-heaviest : goal.returns-in-heaviest
returns-in-heaviest c = search (rules, text_from_reads)

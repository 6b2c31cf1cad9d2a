use Rattle.bits.proofs.Rows.{row_found}
use Rattle.bits.proofs.row.whole_row.Goals as goal

pub returns : goal.returns
returns c = row_found c.args.words.now c.args.r c.as_chunks.result.0.now c.as_chunks.ensures.front c.as_chunks.ensures.front_len c.get.result c.get.ensures.lookup

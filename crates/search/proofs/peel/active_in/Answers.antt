use Rattle.std.proofs.Common.{ap, ◌∙◌, subst}
use Rattle.bits.specs.Sets.{holds, ands, Least, row}
use Rattle.bits.proofs.Rows.{length_row}
use Rattle.search.proofs.Rowsets.{lowest_shared}
use Rattle.search.proofs.peel.active_in.Goals as goal

pub returns : goal.returns
returns c =
    let ws = c.args.words.now in
    let s = c.args.active.now in
    lowest_shared (row ws c.args.r) s (length_row ws c.args.r) c.least.result
    (subst (λ xs. Least (holds xs) c.least.result) (c.shared.ensures ∙ ap (λ l. ands l s.words) c.line_at.ensures) c.least.ensures)

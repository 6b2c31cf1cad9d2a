use Rattle.bits.proofs.row.wipe.Goals as goal

pub returns : goal.returns
returns c = c.fill.ensures.after (λ y h. h)

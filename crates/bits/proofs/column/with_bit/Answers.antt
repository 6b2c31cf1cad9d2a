use Rattle.std.proofs.Common.{◌<◌, ◌^◌, ap, ◌∙◌, sym, subst}
use Rattle.bits.specs.Sets.{bit}
use Rattle.bits.proofs.Eights.{mask_is, mask_few, mask_each}
use Rattle.bits.proofs.column.with_bit.Goals as goal

pub returns-clause-few : goal.returns-clause-few
returns-clause-few c = subst (λ n. n < 2 ^ 8) (sym (mask_is c.args.words c.args.one c.fits-words.0)) (mask_few c.args.words c.args.one c.fits-words.0)

pub returns-clause-each : goal.returns-clause-each
returns-clause-each c k h = ap (λ n. bit n k) (mask_is c.args.words c.args.one c.fits-words.0) ∙ mask_each c.args.words c.args.one c.fits-words.0 k h

use Rattle.std.proofs.Common.{◌≡◌, codes, sym, ◌∙◌, arith, rules}
use Rattle.std.proofs.lemmas.Slice.Eq.{text_from_reads}
use Rattle.script.specs.Words.{first_word}
use Rattle.script.proofs.call.parse.Goals as goal

pub returns-in-figure-default : goal.returns-in-figure-default
returns-in-figure-default c =
    let word : first_word c.args.line.now ≡ codes "figure" = sym c.split_word.ensures.word ∙ text_from_reads _ (codes "figure") (omega arith) (search rules) in
    rw word (search rules)

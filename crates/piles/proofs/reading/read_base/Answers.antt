use Rattle.std.proofs.Common.{◌≡◌, codes, sym, ◌∙◌, arith, rules}
use Rattle.std.proofs.lemmas.Slice.Eq.{text_from_reads}
use Rattle.script.specs.Words.{first_word}
use Rattle.piles.proofs.reading.read_base.Goals as goal

pub returns-in-circulant-default : goal.returns-in-circulant-default
returns-in-circulant-default c =
    let word : first_word c.args.line.now ≡ codes "circulant" = sym c.split_word.ensures.word ∙ text_from_reads _ (codes "circulant") (omega arith) (search rules) in
    rw word (search rules)

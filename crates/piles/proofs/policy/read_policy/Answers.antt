use Rattle.std.proofs.Common.{◌≡◌, codes, sym, ◌∙◌, arith, rules}
use Rattle.std.proofs.lemmas.Slice.Eq.{text_from_reads}
use Rattle.script.specs.Words.{first_word}
use Rattle.piles.proofs.policy.read_policy.Goals as goal

pub returns-in_ok-only_word-in-component-default : goal.returns-in_ok-only_word-in-component-default
returns-in_ok-only_word-in-component-default c =
    let word : first_word c.args.line.now ≡ codes "component" = sym c.split_word.ensures.word ∙ text_from_reads _ (codes "component") (omega arith) (search rules) in
    rw word (search rules)

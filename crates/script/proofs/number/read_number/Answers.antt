use Rattle.std.proofs.Common.{sym, ◌∙◌, subst, arith}
use Rattle.std.specs.Str.Parse.{ParsesUnsigned}
use Rattle.script.proofs.Numerals.{numeral_utf8, no_numeral, number_parsed, unread, text_read}
use Rattle.script.proofs.number.read_number.Goals as goal

pub returns-in_err-ok : goal.returns-in_err-ok
returns-in_err-ok c =
    let word = c.args.word.now in
    let none = sym c.ok.ensures.value ∙ c.in_err-ok.was in
    c.from_residual.ensures ∙ sym (no_numeral word (λ is. unread _ word c.from_utf8.result c.from_utf8.ensures.cases none (numeral_utf8 word is)))

pub returns : goal.returns
returns c =
    let word = c.args.word.now in
    let some = sym c.ok.ensures.value ∙ c.in_ok-ok.was in
    let same = text_read _ word c.from_utf8.result c.in_ok-ok.field-0 c.from_utf8.ensures.cases some in
    let reads = subst (λ bs. ParsesUnsigned 32 10 bs c.parse.result) same c.parse.ensures.value.0 in
    c.ok-2.ensures.value ∙ number_parsed word c.parse.result reads (λ plus. omega arith)

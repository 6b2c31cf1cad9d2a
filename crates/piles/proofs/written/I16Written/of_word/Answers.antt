use Rattle.std.proofs.Common.{◌<◌, length, sym, ◌∙◌, subst, arith, w16, rules}
use Rattle.std.specs.Str.Parse.{ParsesSigned}
use Rattle.script.proofs.Numerals.{unread, text_read}
use Rattle.piles.proofs.Entries.{no_entry, entry_parsed}
use Rattle.piles.proofs.written.I16Written.of_word.Goals as goal

pub returns-in_err-ok : goal.returns-in_err-ok
returns-in_err-ok c =
    let none = sym c.ok.ensures.value ∙ c.in_err-ok.was in
    c.from_residual.ensures ∙ sym (no_entry c.args.word.now (unread _ c.args.word.now c.from_utf8.result c.from_utf8.ensures.cases none))

pub returns : goal.returns
returns c =
    let word = c.args.word.now in
    let some : 0 < length word = search rules in
    let same = text_read _ word c.from_utf8.result c.in_ok-ok.field-0 c.from_utf8.ensures.cases (sym c.ok.ensures.value ∙ c.in_ok-ok.was) in
    let reads = subst (λ bs. ParsesSigned w16 10 bs c.parse.result) same c.parse.ensures.value.0 in
    c.ok-2.ensures.value ∙ entry_parsed word c.parse.result reads some (λ plus. omega arith)

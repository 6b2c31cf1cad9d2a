use Rattle.std.proofs.Common.{◌≡◌, length, vec_items, sym, ap, ◌∙◌, rules}
use Rattle.script.specs.Words.{first_word}
use Rattle.piles.specs.Readings.{words_of, each_of}
use Rattle.piles.proofs.Listings.{after, after_none, item_read, no_item, no_word}
use Rattle.piles.proofs.written.read_list.Goals as goal

pub loop-word-init : goal.loop-word-init
loop-word-init g c =
    let f = g.T.Written.written in
    let e : c.into_iter-word-iterator.result.rest.now ≡ c.args.line.now = search rules in
    after_none (vec_items c.new-items.result) _ c.new-items.ensures.items ∙ ap (λ l. each_of f (words_of (length l) l)) e

pub returns-in_default : goal.returns-in_default
returns-in_default g c =
    let f = g.T.Written.written in
    let steps = c.in-Some.ensures.steps in
    let some : length (first_word c.loop-word.word-iterator.rest.now) ≡ 0 → ⊥ = λ h. steps.1.0 (ap length steps.0 ∙ h) in
    sym (no_item f (vec_items c.loop-word.items) c.loop-word.word-iterator.rest.now some (ap f (sym steps.0) ∙ sym c.in_default.ensures)) ∙ c.loop-word.invariant

pub loop-word-preserved : goal.loop-word-preserved
loop-word-preserved g c =
    let f = g.T.Written.written in
    let steps = c.in-Some.ensures.steps in
    let some : length (first_word c.loop-word.word-iterator.rest.now) ≡ 0 → ⊥ = λ h. steps.1.0 (ap length steps.0 ∙ h) in
    (λ i. after (c.in_ok-push.ensures.items i) (each_of f (words_of (length (steps.1.1 i)) (steps.1.1 i))))
    ∙ item_read f (vec_items c.loop-word.items) c.loop-word.word-iterator.rest.now c.in-Some-of_word.item some (ap f (sym steps.0) ∙ sym c.in-Some-of_word.ensures)
    ∙ c.loop-word.invariant

pub returns : goal.returns
returns g c =
    let f = g.T.Written.written in
    sym (no_word f (vec_items c.loop-word.items) c.loop-word.word-iterator.rest.now c.in-None.ensures.steps.0) ∙ c.loop-word.invariant

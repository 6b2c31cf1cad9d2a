use Rattle.std.proofs.Common.{◌++◌, ap, sym, ◌∙◌, vec_items}
use Rattle.dialogue.proofs.Marks.{marks_next, pushed_twice}
use Rattle.dialogue.proofs.score.ask_places.Goals as goal

pub loop-place-preserved : goal.loop-place-preserved
loop-place-preserved g c =
    pushed_twice _ _ _ _ (c.in_ok-push.ensures.items) (c.in_ok-push-2.ensures.items)
    ∙ ap (λ l. vec_items c.loop-place.calls ++ l) (sym (marks_next c.args.block c.loop-place.place c.args.places c.loop-place-test.true))
    ∙ c.loop-place.invariant

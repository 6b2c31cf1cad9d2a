use Rattle.std.proofs.Common.{◌≡◌, ◌-◌, ◌++◌, vec_items}
use Rattle.dialogue.specs.Scores.{marks}
use Rattle.dialogue.proofs.score.ask_places.Given as goal

abbrev pub invariant-loop-place : goal.invariant-loop-place
invariant-loop-place g l =
    vec_items l.calls ++ marks l.block l.place (l.places - l.place) ≡ vec_items l.fn.calls ++ marks l.block 0 l.places

use Rattle.std.proofs.Common.{◌<◌, length, vec_items, sym, ◌∙◌, rules}
use Rattle.std.proofs.lemmas.List.{take_rest}
use Rattle.script.specs.Hex.{pairs_of}
use Rattle.script.proofs.Hexes.{after, pair_read}
use Rattle.script.proofs.hex.read_pairs.Goals as goal

pub loop-rest-preserved : goal.loop-rest-preserved
loop-rest-preserved c =
    let rest = c.loop-rest.rest.now in
    let two : 1 < length rest = search rules in
    (λ i. after (c.in_ok-push.ensures.items i) (pairs_of (take_rest rest 2 i))) ∙ pair_read (vec_items c.loop-rest.bytes) rest c.in-Some.byte two (sym c.in-Some.ensures) ∙ c.loop-rest.invariant

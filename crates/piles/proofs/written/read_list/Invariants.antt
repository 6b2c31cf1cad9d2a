use Rattle.std.proofs.Common.{◌≡◌, length, vec_items}
use Rattle.piles.specs.Readings.{words_of, each_of, list_of}
use Rattle.piles.proofs.Listings.{after}
use Rattle.piles.proofs.written.read_list.Given as goal

abbrev pub invariant-loop-word : goal.invariant-loop-word
invariant-loop-word g l =
    let rest = l.word-iterator.rest.now in
    let f = g.T.Written.written in
    after (vec_items l.items) (each_of f (words_of (length rest) rest)) ≡ list_of f l.line

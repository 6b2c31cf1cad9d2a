use Rattle.std.proofs.Common.{◌≡◌, ◌+◌, max, drop}
use Rattle.dialogue.specs.Scripts.{places_asked, words_asked, symbols_asked}
use Rattle.dialogue.proofs.whole.Room.of.Given as goal

abbrev pub invariant-loop-call : goal.invariant-loop-call
invariant-loop-call g l =
    let more = drop l.call-index l.calls in
    (l.room.places + places_asked more ≡ places_asked l.calls)
    × (max l.room.words (words_asked more) ≡ words_asked l.calls)
    × (max l.room.symbols (symbols_asked more) ≡ symbols_asked l.calls)

use Rattle.std.proofs.Common.{◌≡◌, ℕ, ◌+◌, ◌≤◌, List, ◌++◌, length}
use Rattle.std.specs.Fmt.{HasWritten, IsPlainFormatter}
use Rattle.dialogue.specs.Tellings.{places_text}
use Rattle.dialogue.proofs.grid.write_places.Given as goal

abbrev pub invariant-loop-place : goal.invariant-loop-place
invariant-loop-place g l =
    let sp = g.S.Spelled.spelling in
    record {
      left : l.place-counter + length l.rest ≤ length l.fn.entries;
      written : IsPlainFormatter l.fn.f
          → (done : List ℕ) × HasWritten g.W.Write.write_str_gives l.fn.f done l.f × (done ++ places_text sp l.place-counter l.rest ≡ places_text sp 0 l.fn.entries);
    }

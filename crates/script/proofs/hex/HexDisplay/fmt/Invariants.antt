use Rattle.std.proofs.Common.{◌≡◌, ℕ, List, ◌++◌}
use Rattle.std.specs.Fmt.{HasWritten, IsPlainFormatter}
use Rattle.std.specs.Slice.Iter.{chunks_rest, chunks_size}
use Rattle.script.specs.Hex.{digits_of, hex_of}
use Rattle.script.proofs.hex.HexDisplay.fmt.Given as goal

abbrev pub invariant-loop-few : goal.invariant-loop-few
invariant-loop-few g l = record {
  sized : chunks_size l.few-iterator ≡ 32;
  written : IsPlainFormatter l.fn.f
      → (done : List ℕ) × HasWritten g.W.Write.write_str_gives l.fn.f done l.f × (done ++ digits_of (chunks_rest l.few-iterator) ≡ hex_of l.fn.self.0.now);
}

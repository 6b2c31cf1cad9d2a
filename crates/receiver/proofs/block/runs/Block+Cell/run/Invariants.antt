use Rattle.std.proofs.Common.{◌≡◌, ℕ, ◌+◌, ◌*◌, ◌<◌, length, Result}
use Rattle.std.specs.Iterator.Adapters.{enumerate_count, enumerate_source}
use Rattle.std.specs.Slice.Iter.{chunk_count, chunks_rest, chunks_size}
use Rattle.symbols.specs.declared.kinds.Cell.{Cell}
use Rattle.receiver.specs.declared.run.Stopped.{Stopped}
use Rattle.receiver.specs.Blocks.{Block}
use Rattle.receiver.specs.Runs.{packets_in, Runs}
use Rattle.receiver.specs.View.{model}
use Rattle.receiver.proofs.block.runs.Block+Cell.run.Given as goal

-- what is left of the run makes the whole of it
abbrev pub invariant-loop-taken : goal.invariant-loop-taken
invariant-loop-taken l =
    let n = enumerate_count l.taken-iterator in
    let left = chunks_rest (enumerate_source l.taken-iterator) in
    record {
      sized : chunks_size (enumerate_source l.taken-iterator) ≡ 68;
      even : 0 < length left → n * 68 + length left ≡ length l.bytes;
      counted : length left ≡ 0 → chunk_count (length l.bytes) 68 ≡ n;
      lent : l.self.table.ghost_name ≡ l.initial.self.table.ghost_name;
      runs : (r : Result ℕ Stopped) (m : Block Cell) → Runs l.stamp (model l.self) (packets_in left) n (n * 68) r m
          → Runs l.stamp (model l.initial.self) (packets_in l.bytes) 0 0 r m;
    }

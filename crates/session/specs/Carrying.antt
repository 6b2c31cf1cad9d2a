-- Packets as bytes, for blocks of any symbols: only cells are carried so.
--
--   Carriage              what symbols do with packets as bytes, and what that tells
--   not_carried           nothing is done
--   nothing_told          nothing is told
--   cell_packed, cell_ran what it does to take a packet, or a run of them, of cells
--   packet_tells, run_tells    a history with the events of it after it
--   cells, no_cells       the carriage of cells, and that of other symbols
use Rattle.std.specs.Prelude.{◌≡◌, ℕ, List, ◌∷◌, Some, None, Option, Result}
use Rattle.symbols.specs.declared.kinds.Cell.{Cell}
use Rattle.receiver.specs.declared.run.Layer.{Layer}
use Rattle.receiver.specs.declared.run.Stopped.{Stopped}
use Rattle.receiver.specs.Blocks.{Block}
use Rattle.receiver.specs.History.{Event}
use Rattle.receiver.specs.Runs.{PacketStep, packet_event, packets_in, Runs, with_run}

-- what symbols do with packets as bytes, and what that tells
pub record Carriage (S : Type 0) : Type 1 where
  pub packs : Block S → ℕ → List ℕ → Option (Result (Unit {0}) Layer) → Block S → Type 0
  pub packet : ℕ → List ℕ → Option (Result (Unit {0}) Layer) → List (Event S) → List (Event S)
  pub runs : Block S → ℕ → List ℕ → Option (Result ℕ Stopped) → Block S → Type 0
  pub run : ℕ → List ℕ → Option (Result ℕ Stopped) → List (Event S) → List (Event S)

abbrev pub not_carried : {S R : Type 0} → Block S → ℕ → List ℕ → Option R → Block S → Type 0
not_carried m s bs None m' = m' ≡ m
not_carried m s bs (Some r) m' = ⊥

abbrev pub nothing_told : {S R : Type 0} → ℕ → List ℕ → Option R → List (Event S) → List (Event S)
nothing_told s bs r h = h

abbrev pub cell_packed : Block Cell → ℕ → List ℕ → Option (Result (Unit {0}) Layer) → Block Cell → Type 0
cell_packed m s bs None m' = ⊥
cell_packed m s bs (Some r) m' = PacketStep m s bs r m'

abbrev pub packet_tells : ℕ → List ℕ → Option (Result (Unit {0}) Layer) → List (Event Cell) → List (Event Cell)
packet_tells s bs None h = h
packet_tells s bs (Some r) h = packet_event s bs r ∷ h

abbrev pub cell_ran : Block Cell → ℕ → List ℕ → Option (Result ℕ Stopped) → Block Cell → Type 0
cell_ran m s bs None m' = ⊥
cell_ran m s bs (Some r) m' = Runs s m (packets_in bs) 0 0 r m'

abbrev pub run_tells : ℕ → List ℕ → Option (Result ℕ Stopped) → List (Event Cell) → List (Event Cell)
run_tells s bs None h = h
run_tells s bs (Some r) h = with_run s (packets_in bs) 0 r h

abbrev pub cells : Carriage Cell
cells = record { packs = cell_packed; packet = packet_tells; runs = cell_ran; run = run_tells }

abbrev pub no_cells : {S : Type 0} → Carriage S
no_cells = record { packs = not_carried; packet = nothing_told; runs = not_carried; run = nothing_told }

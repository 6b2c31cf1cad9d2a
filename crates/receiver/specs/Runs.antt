-- Packets as bytes, alone and in a run.
--
--   packet_cell   the cell of a packet's bytes
--   PacketStep    what it does to receive a packet from bytes: refused by its length first
--   packets_in    bytes cut every 68; what is left at the end is a packet too
--   Runs          packets received one after another until the first refusal
--   packet_event  the event that a packet and its answer make
--   with_run      a history with the events of a run after it
use Rattle.std.specs.Prelude.{◌≡◌, ℕ, zero, suc, ◌+◌, cond, ◌⊎◌, List, [], ◌∷◌, length, take, drop, Ok, Err, Result, ◌==◌}
use Rattle.packets.specs.Packets.{block_of, number_of, cell_of}
use Rattle.packets.specs.declared.fault.HeaderFault.TheVariants.{Length}
use Rattle.symbols.specs.Cells.{cell_kind}
use Rattle.symbols.specs.Cells as cells
use Rattle.symbols.specs.declared.kinds.Cell.{Cell}
use Rattle.receiver.specs.declared.run.Layer.{Layer}
use Rattle.receiver.specs.declared.run.Layer.TheVariants.{Header}
use Rattle.receiver.specs.declared.run.Layer.TheVariants as layer
use Rattle.receiver.specs.declared.run.Stopped.{Stopped}
use Rattle.receiver.specs.Calls.Call.{receive}
use Rattle.receiver.specs.History.{Event, Opened}
use Rattle.receiver.specs.History.Event.{refused, unread, received}
use Rattle.receiver.specs.Blocks.{Block}
use Rattle.receiver.specs.Steps.{Step}
use Rattle.receiver.specs.Stands.{Stands}

abbrev pub packet_cell : List ℕ → Cell
packet_cell bs = cells.cell_of (cell_of bs)

abbrev pub packet_event : {U : Type 0} → (stamp : ℕ) → List ℕ → Result U Layer → Event Cell
packet_event s bs (Ok u) = received (block_of bs) s (number_of bs) (packet_cell bs)
packet_event s bs (Err (layer.Block f)) = refused (receive (block_of bs) s (number_of bs) (packet_cell bs)) f
packet_event s bs (Err (Header f)) = unread s (length bs)

-- the fault of a header is its length
abbrev pub PacketFault : {U : Type 0} → List ℕ → Result U Layer → Type 0
PacketFault bs (Ok u) = length bs ≡ 68
PacketFault bs (Err (layer.Block f)) = length bs ≡ 68
PacketFault bs (Err (Header f)) = f ≡ Length (length bs)

pub record PacketStep {U : Type 0} (m : Block Cell) (s : ℕ) (bs : List ℕ) (r : Result U Layer) (m' : Block Cell) : Type 0 where
  pub step : Step cell_kind m (packet_event s bs r) m'
  pub fault : PacketFault bs r

-- so many packets at most
abbrev pub cut : ℕ → List ℕ → List (List ℕ)
cut zero bs = []
cut (suc k) [] = []
cut (suc k) (b ∷ bs) = take 68 (b ∷ bs) ∷ cut k (drop 68 (b ∷ bs))

abbrev pub packets_in : List ℕ → List (List ℕ)
packets_in bs = cut (length bs) bs

abbrev pub stopped_at : ℕ → Layer → Stopped
stopped_at at f = record { at = at; fault = f }

-- from a block, with so many packets taken and at a byte place
abbrev pub Runs : (stamp : ℕ) → Block Cell → List (List ℕ) → (taken at : ℕ) → Result ℕ Stopped → Block Cell → Type 0
Runs s m [] n at r m' = (r ≡ Ok n) × (m' ≡ m)
Runs s m (p ∷ ps) n at r m' =
    ((mid : Block Cell) × PacketStep m s p (Ok (tt {0})) mid × Runs s mid ps (n + 1) (at + 68) r m')
    ⊎ ((f : Layer) × PacketStep {U = Unit {0}} m s p (Err f) m' × (r ≡ Err (stopped_at at f)))

abbrev pub with_run : (stamp : ℕ) → List (List ℕ) → (at : ℕ) → Result ℕ Stopped → List (Event Cell) → List (Event Cell)
with_run s [] at r h = h
with_run s (p ∷ ps) at (Ok n) h = with_run s ps (at + 68) (Ok n) (packet_event s p (Ok (tt {0})) ∷ h)
with_run s (p ∷ ps) at (Err e) h =
    cond (e.at == at) (packet_event {U = Unit {0}} s p (Err e.fault) ∷ h)
    (with_run s ps (at + 68) (Err e) (packet_event s p (Ok (tt {0})) ∷ h))

-- whatever history stands of a block, with the run after it it stands of the block after the run
abbrev pub RunGoesOn : (stamp : ℕ) → Block Cell → List (List ℕ) → Result ℕ Stopped → Block Cell → Type 0
RunGoesOn s m ps r m' = (o : Opened) (h : List (Event Cell)) → Stands cell_kind o h m → Stands cell_kind o (with_run s ps 0 r h) m'

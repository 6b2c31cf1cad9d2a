-- How a history stands of a block: every event of it was true when it came, and the block is as they tell.
--
--   opening       what an open was handed
--   Kept          what a block keeps of a packet taken
--   Tied          the block's values are what the calls and answers tell
--   Stands        the events were true, and the block is tied to them
--   GoesOn        whatever history stands of a block, with this event more it stands of the block after it
use Rattle.std.specs.Prelude.{◌≡◌, ℕ, ◌<◌, ◌≤◌, false, List, ◌++◌, length, Some, None, Option, slice_index_or}
use Rattle.std.specs.List.{AllByRecursion}
use Rattle.symbols.specs.Kinds.{Kind}
use Rattle.method.specs.Fillings.{Only}
use Rattle.receiver.specs.declared.block.Out.TheVariants.{Full}
use Rattle.receiver.specs.History.{Opened, Event, Packet, Solved, Told, told, borne, Agrees, Truths}
use Rattle.receiver.specs.Blocks.{Block}

abbrev pub opening : (number stamp places : ℕ) → Opened
opening b s n = record { number = b; stamp = s; places = n }

module _ {S : Type 0} (K : Kind S) where
  pub record Kept (m : Block S) (k : Packet S) : Type 0 where
    pub stamp_is : k.stamp ≡ m.stamp
    pub below : k.place < m.n
    pub symbol_is : slice_index_or m.table k.place K.zero ≡ k.symbol

  -- w is the codeword that a granted solve found
  abbrev pub IsFound : Option (Solved S) → List S → Type 0
  IsFound None w = ⊥
  IsFound (Some d) w = Only (Agrees K d.packets d.code) w

  pub record Tied (o : Opened) (t : Told S) (m : Block S) : Type 0 where
    pub number : m.number ≡ o.number
    pub stamp : m.stamp ≡ t.stamp
    pub places : m.n ≡ o.places
    pub out : m.out ≡ t.out
    pub whole : length m.table ≡ m.n
    pub room : m.n ≤ length m.received
    pub kept : AllByRecursion (Kept m) t.packets
    pub marked : (p : ℕ) → p < m.n → slice_index_or m.received p false ≡ borne t.packets p
    pub found : m.out ≡ Full → IsFound t.last m.table

  pub record Stands (o : Opened) (h : List (Event S)) (m : Block S) : Type 0 where
    pub truths : Truths K o h
    pub tied : Tied o (told o h) m

  abbrev pub GoesOn : Block S → List (Event S) → Block S → Type 0
  GoesOn m es m' = (o : Opened) (h : List (Event S)) → Stands o h m → Stands o (es ++ h) m'

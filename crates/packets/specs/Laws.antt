-- The laws of reading and writing packets.
--
--   Pair          a block number and a packet number in range
--   Reads         what was written is read back, and no other pair has its header
--   Rewrites      what was read is a pair in range, and writing it gives the same bytes
use Rattle.std.specs.Prelude.{◌≡◌, ℕ, ◌^◌, ◌<◌, List, take, Ok}
use Rattle.packets.specs.Packets.{header, packet, cell_of, read_header, read_cell}

pub record Pair (block number : ℕ) : Type 0 where
  pub block_fits : block < 2 ^ 12
  pub number_fits : number < 2 ^ 20

pub record Reads (bytes : List ℕ) (block number : ℕ) (cell : List ℕ) : Type 0 where
  pub header_back : read_header bytes ≡ Ok (block, number)
  pub cell_back : read_cell bytes ≡ Ok cell
  pub alone : (b n : ℕ) → Pair b n → header b n ≡ take 4 bytes → (b ≡ block) × (n ≡ number)

pub record Rewrites (bytes : List ℕ) (block number : ℕ) : Type 0 where
  pub pair : Pair block number
  pub same : packet block number (cell_of bytes) ≡ bytes

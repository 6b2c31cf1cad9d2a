-- A packet of 68 bytes: four header bytes, highest first, with 12 bits of block number and 20 bits of packet number
-- (the FEC Payload ID of RFC 5170), then a cell of 64 bytes.
--
--   word_of                 the 32-bit number that the first four bytes write
--   block_of, number_of     its upper 12 bits and its lower 20 bits
--   cell_of                 what follows the header
--   word_bytes              the four bytes that write a 32-bit number
--   header, packet          the bytes of a block number and a packet number, and those with a cell behind
--   wrong_length, wrong_block, wrong_number     the causes of refusal
--   read_header, read_cell, write_packet        what the calls answer
use Rattle.std.specs.Prelude.{ℕ, ◌+◌, ◌*◌, ◌/◌, ◌%◌, ◌^◌, not, List, [], ◌∷◌, ◌++◌, length, drop, Result, ◌==◌, nat_le, slice_index}
use Rattle.packets.specs.Faults.{meaning}
use Rattle.refusals.specs.Refusals.{Refusal, Cause, if_so, unless}
use Rattle.packets.specs.declared.fault.HeaderFault.TheVariants.{Length, Block, Number}

abbrev pub word_of : List ℕ → ℕ
word_of bytes = slice_index bytes 0 * 2 ^ 24 + slice_index bytes 1 * 2 ^ 16 + slice_index bytes 2 * 2 ^ 8 + slice_index bytes 3

abbrev pub block_of : List ℕ → ℕ
block_of bytes = word_of bytes / 2 ^ 20

abbrev pub number_of : List ℕ → ℕ
number_of bytes = word_of bytes % 2 ^ 20

abbrev pub cell_of : List ℕ → List ℕ
cell_of bytes = drop 4 bytes

abbrev pub word_bytes : ℕ → List ℕ
word_bytes w = (w / 2 ^ 24 % 256) ∷ (w / 2 ^ 16 % 256) ∷ (w / 2 ^ 8 % 256) ∷ (w % 256) ∷ []

abbrev pub header : ℕ → ℕ → List ℕ
header block number = word_bytes (block * 2 ^ 20 + number)

abbrev pub packet : ℕ → ℕ → List ℕ → List ℕ
packet block number cell = header block number ++ cell

abbrev pub wrong_length : ℕ → Cause Refusal
wrong_length n = if_so (not (n == 68)) (meaning (Length n))

abbrev pub wrong_block : ℕ → Cause Refusal
wrong_block block = if_so (nat_le 4096 block) (meaning (Block block))

abbrev pub wrong_number : ℕ → Cause Refusal
wrong_number number = if_so (nat_le 1048576 number) (meaning (Number number))

abbrev pub read_header : List ℕ → Result (ℕ × ℕ) Refusal
read_header bytes = unless (wrong_length (length bytes) ∷ []) (block_of bytes, number_of bytes)

abbrev pub read_cell : List ℕ → Result (List ℕ) Refusal
read_cell bytes = unless (wrong_length (length bytes) ∷ []) (cell_of bytes)

-- into a slice of n bytes
abbrev pub write_packet : ℕ → ℕ → ℕ → Result (Unit {0}) Refusal
write_packet n block number = unless (wrong_length n ∷ wrong_block block ∷ wrong_number number ∷ []) tt

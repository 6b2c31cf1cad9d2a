-- The calls of the script language, and what a line asks.
--
--   Asked         a call, by its values
--   asked         what a call of the program asks
--   only          what a line asks where it has no more words than these
--   sized, cell_word, length_word           the cell and the slice's length that words give
--   write_asked, figure_asked               a call from what its words give, none where one gives none
--   read_call, write_call, figure_call      what the line behind a call's word asks, none where it is not understood
--   understood    what a line asks, none where it is not understood
use Rattle.std.specs.Prelude.{ℕ, cond, List, length, Some, None, vec_items, codes, Option, ◌==◌}
use Rattle.std.specs.Option.{option_map}
use Rattle.std.specs.Str.{bytes_eq}
use Rattle.script.specs.Hex.{bytes_of}
use Rattle.script.specs.Numbers.{number_of}
use Rattle.script.specs.Words.{word, past, blank}
use Rattle.script.specs.declared.call.Call.{Call}
use Rattle.script.specs.declared.call.Call.TheVariants.{Read, Write, Figure}

pub data Asked : Type 0 where
  read : List ℕ → Asked
  write : ℕ → ℕ → List ℕ → ℕ → Asked
  figure : ℕ → ℕ → Asked

abbrev pub asked : Call → Asked
asked (Read bytes) = read (vec_items bytes)
asked (Write block number cell length) = write block number cell length
asked (Figure received n) = figure received n

abbrev pub only : {A : Type 0} → ℕ → List ℕ → Option A → Option A
only n line o = cond (blank (past n line)) o None

-- read HEX
abbrev pub read_call : List ℕ → Option Asked
read_call line = only 1 line (option_map read (bytes_of (word 0 line)))

-- a cell: the bytes of a word, where they are 64
abbrev pub sized : Option (List ℕ) → Option (List ℕ)
sized None = None
sized (Some bytes) = cond (length bytes == 64) (Some bytes) None

abbrev pub cell_word : List ℕ → Option (List ℕ)
cell_word w = sized (bytes_of w)

-- the length of the slice handed in, 68 where it is left out
abbrev pub length_word : List ℕ → Option ℕ
length_word line = cond (blank line) (Some 68) (only 1 line (number_of (word 0 line)))

-- write BLOCK NUMBER HEXCELL [LENGTH]
abbrev pub write_asked : Option ℕ → Option ℕ → Option (List ℕ) → Option ℕ → Option Asked
write_asked None number cell length = None
write_asked (Some b) None cell length = None
write_asked (Some b) (Some p) None length = None
write_asked (Some b) (Some p) (Some c) None = None
write_asked (Some b) (Some p) (Some c) (Some l) = Some (write b p c l)

abbrev pub write_call : List ℕ → Option Asked
write_call line =
    write_asked (number_of (word 0 line)) (number_of (word 1 line)) (cell_word (word 2 line)) (length_word (past 3 line))

-- figure RECEIVED N
abbrev pub figure_asked : Option ℕ → Option ℕ → Option Asked
figure_asked None n = None
figure_asked (Some r) None = None
figure_asked (Some r) (Some n) = Some (figure r n)

abbrev pub figure_call : List ℕ → Option Asked
figure_call line = only 2 line (figure_asked (number_of (word 0 line)) (number_of (word 1 line)))

abbrev pub understood : List ℕ → Option Asked
understood line =
    cond (bytes_eq (word 0 line) (codes "read")) (read_call (past 1 line))
    (cond (bytes_eq (word 0 line) (codes "write")) (write_call (past 1 line))
    (cond (bytes_eq (word 0 line) (codes "figure")) (figure_call (past 1 line)) None))

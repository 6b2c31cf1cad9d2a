-- How the symbols of a script are written.
--
--   Spelling      what a word writes, and how a symbol is written: in a script, and for people
--   bit_of, word_from, word_in, word_of, cell_of_word, dated_from, dated_of      the symbol of a word, none where it writes none
--   put_before, trimmed      bytes without the zeros at their end
--   bit_text, word_text, cell_text, dated_text, cell_plain, dated_plain      the text of a symbol
--   bits, words, cells, dated               the spellings of the kinds
use Rattle.std.specs.Prelude.{ℕ, cond, List, [], ◌∷◌, ◌++◌, length, Some, None, codes, Option, ◌==◌}
use Rattle.std.specs.Option.{option_map}
use Rattle.std.specs.Str.{bytes_eq}
use Rattle.packets.specs.Packets.{word_bytes, word_of as word_written}
use Rattle.piles.specs.Readings.{paired}
use Rattle.script.specs.Calls.{cell_word}
use Rattle.script.specs.Hex.{hex_of, bytes_of}
use Rattle.script.specs.Lines.{all_escaped}
use Rattle.script.specs.Words.{cut_at}
use Rattle.symbols.specs.Cells.{cell_of}
use Rattle.symbols.specs.declared.kinds.Bit.{Bit}
use Rattle.symbols.specs.declared.kinds.Bit.TheVariants.{Zero, One}
use Rattle.symbols.specs.declared.kinds.Word.{Word}
use Rattle.symbols.specs.declared.kinds.Cell.{Cell}
use Rattle.symbols.specs.declared.kinds.Pair.{Pair}

pub record Spelling (S : Type 0) : Type 0 where
  pub read : List ℕ → Option S
  pub text : S → List ℕ
  pub plain : S → List ℕ

-- a bit is 0 or 1
abbrev pub bit_of : List ℕ → Option Bit
bit_of w = cond (bytes_eq w (codes "0")) (Some Zero) (cond (bytes_eq w (codes "1")) (Some One) None)

abbrev pub bit_text : Bit → List ℕ
bit_text Zero = codes "0"
bit_text One = codes "1"

abbrev pub bits : Spelling Bit
bits = record { read = bit_of; text = bit_text; plain = bit_text }

-- a word is eight hex digits: the number, highest digit first
abbrev pub word_from : List ℕ → Option Word
word_from bytes = cond (length bytes == 4) (Some (record { value = word_written bytes })) None

abbrev pub word_in : Option (List ℕ) → Option Word
word_in None = None
word_in (Some bytes) = word_from bytes

abbrev pub word_of : List ℕ → Option Word
word_of w = word_in (bytes_of w)

abbrev pub word_text : Word → List ℕ
word_text w = hex_of (word_bytes w.value)

abbrev pub words : Spelling Word
words = record { read = word_of; text = word_text; plain = word_text }

-- a cell is 128 hex digits: its bytes in their order
abbrev pub cell_of_word : List ℕ → Option Cell
cell_of_word w = option_map cell_of (cell_word w)

abbrev pub cell_text : Cell → List ℕ
cell_text c = hex_of c.bytes

abbrev pub put_before : ℕ → List ℕ → List ℕ
put_before b [] = cond (b == 0) [] (b ∷ [])
put_before b (c ∷ cs) = b ∷ c ∷ cs

abbrev pub trimmed : List ℕ → List ℕ
trimmed [] = []
trimmed (b ∷ bs) = put_before b (trimmed bs)

-- for people, its bytes as text
abbrev pub cell_plain : Cell → List ℕ
cell_plain c = all_escaped (trimmed c.bytes)

abbrev pub cells : Spelling Cell
cells = record { read = cell_of_word; text = cell_text; plain = cell_plain }

-- a dated cell is a cell and a word joined by a colon
abbrev pub dated_from : Option (List ℕ × List ℕ) → Option (Pair Cell Word)
dated_from None = None
dated_from (Some p) = paired (λ c w. record { first = c; second = w }) (cell_of_word p.0) (word_of p.1)

abbrev pub dated_of : List ℕ → Option (Pair Cell Word)
dated_of w = dated_from (cut_at 58 w)

abbrev pub dated_text : Pair Cell Word → List ℕ
dated_text d = cell_text d.first ++ (codes ":" ++ word_text d.second)

abbrev pub dated_plain : Pair Cell Word → List ℕ
dated_plain d = cell_plain d.first ++ (codes " " ++ word_text d.second)

abbrev pub dated : Spelling (Pair Cell Word)
dated = record { read = dated_of; text = dated_text; plain = dated_plain }

-- How a line is read as a pile of codes.
--
--   WrittenBase, WrittenPile     a base and a pile by what is written of them, lists in place of vectors
--   base_written, pile_written   what is written of a base and of a pile of the program
--   paired                       two values put together, none where one is none
--   narrow, half_of              a number of 16 bits
--   record_from, record_of       the record that a word R:C writes
--   entry_of                     the base entry that a word writes: a number of 16 bits, with a minus sign or without
--   words_of                     the words of a line, n at most
--   each_of, list_of             what the words of a line write, word by word; none where one of them writes nothing of this kind
--   interleaved_word             whether a word is `interleaved`
--   squares_from, squares_of     the sizes of squares that the first three words of a line write
--   listed_from, listed_of, circulant_of, base_of   the base that a line writes
--   gap_end, gap_start           whether a text ends, or begins, with a byte that separates words
--   halves_from, halves_of       what stands before a plus between such bytes, and what behind it
--   bases_from, bases_of         the two bases that a line writes around a plus
--   interleaved_over, interleaved_from, interleaved_of, stacked_of, pile_of   the pile that a line writes, none where it is not understood
use Rattle.std.specs.Prelude.{ℕ, zero, suc, ◌-◌, ◌^◌, Bool, false, cond, ◌&&◌, List, [], ◌∷◌, length, ℤ, pos, neg_ℤ, Some, None, vec_items, codes, Option, ◌==◌, nat_le, nat_lt, slice_index}
use Rattle.std.specs.Option.{option_map}
use Rattle.std.specs.Str.Parse.{digits_value}
use Rattle.std.specs.Str.{bytes_eq}
use Rattle.codes.specs.declared.record.Record.{Record}
use Rattle.codes.specs.declared.squares.Squares.{Squares}
use Rattle.script.specs.Numbers.{numeral, number_of}
use Rattle.script.specs.Words.{word, past, blank, cut_at}
use Rattle.piles.specs.declared.base.Base.{Base}
use Rattle.piles.specs.declared.base.Base.TheVariants.{Listed, Circulant}
use Rattle.piles.specs.declared.pile.Pile.{Pile}
use Rattle.piles.specs.declared.pile.Pile.TheVariants.{Single, Interleaved, Stacked, InterleavedInStack, InterleavedStack}

pub data WrittenBase : Type 0 where
  a_list : ℕ → ℕ → List Record → WrittenBase
  a_circulant : Squares → List ℤ → WrittenBase

pub data WrittenPile : Type 0 where
  single : WrittenBase → WrittenPile
  interleaved : Squares → WrittenBase → WrittenPile
  stacked : WrittenBase → WrittenBase → WrittenPile
  interleaved_in_stack : Squares → WrittenBase → WrittenBase → WrittenPile
  interleaved_stack : Squares → WrittenBase → WrittenBase → WrittenPile

abbrev pub base_written : Base → WrittenBase
base_written (Listed m n records) = a_list m n (vec_items records)
base_written (Circulant s entries) = a_circulant s (vec_items entries)

abbrev pub pile_written : Pile → WrittenPile
pile_written (Single p) = single (base_written p)
pile_written (Interleaved s p) = interleaved s (base_written p)
pile_written (Stacked p q) = stacked (base_written p) (base_written q)
pile_written (InterleavedInStack s p q) = interleaved_in_stack s (base_written p) (base_written q)
pile_written (InterleavedStack s p q) = interleaved_stack s (base_written p) (base_written q)

abbrev pub paired : {A B C : Type 0} → (A → B → C) → Option A → Option B → Option C
paired f None b = None
paired f (Some a) None = None
paired f (Some a) (Some b) = Some (f a b)

abbrev pub narrow : Option ℕ → Option ℕ
narrow None = None
narrow (Some n) = cond (nat_lt n (2 ^ 16)) (Some n) None

abbrev pub half_of : List ℕ → Option ℕ
half_of word = narrow (number_of word)

abbrev pub record_from : Option (List ℕ × List ℕ) → Option Record
record_from None = None
record_from (Some p) = paired (λ r c. record { row = r; column = c }) (half_of p.0) (half_of p.1)

abbrev pub record_of : List ℕ → Option Record
record_of word = record_from (cut_at 58 word)

abbrev pub entry_of : List ℕ → Option ℤ
entry_of [] = None
entry_of (c ∷ cs) =
    cond (c == 45) (cond (numeral cs && nat_le (digits_value 10 cs) (2 ^ 15)) (Some (neg_ℤ (pos (digits_value 10 cs)))) None)
    (cond (numeral (c ∷ cs) && nat_lt (digits_value 10 (c ∷ cs)) (2 ^ 15)) (Some (pos (digits_value 10 (c ∷ cs)))) None)

abbrev pub words_of : ℕ → List ℕ → List (List ℕ)
words_of zero line = []
words_of (suc n) line = cond (length (word 0 line) == 0) [] (word 0 line ∷ words_of n (past 1 line))

abbrev pub each_of : {A : Type 0} → (List ℕ → Option A) → List (List ℕ) → Option (List A)
each_of f [] = Some []
each_of f (w ∷ ws) = paired ◌∷◌ (f w) (each_of f ws)

-- a line has no more words than bytes
abbrev pub list_of : {A : Type 0} → (List ℕ → Option A) → List ℕ → Option (List A)
list_of f line = each_of f (words_of (length line) line)

unfoldable pub interleaved_word : List ℕ → Bool
interleaved_word w = bytes_eq w (codes "interleaved")

abbrev pub squares_from : Option ℕ → Option ℕ → Option ℕ → Option Squares
squares_from None b z = None
squares_from (Some a) None z = None
squares_from (Some a) (Some b) None = None
squares_from (Some a) (Some b) (Some z) = Some (record { a = a; b = b; z = z })

abbrev pub squares_of : List ℕ → Option Squares
squares_of line = squares_from (number_of (word 0 line)) (number_of (word 1 line)) (number_of (word 2 line))

-- M N R:C R:C ..
abbrev pub listed_from : Option ℕ → Option ℕ → Option (List Record) → Option WrittenBase
listed_from None n records = None
listed_from (Some m) None records = None
listed_from (Some m) (Some n) records = option_map (a_list m n) records

abbrev pub listed_of : List ℕ → Option WrittenBase
listed_of line = listed_from (number_of (word 0 line)) (number_of (word 1 line)) (list_of record_of (past 2 line))

-- A B Z E E ..
abbrev pub circulant_of : List ℕ → Option WrittenBase
circulant_of line = paired a_circulant (squares_of line) (list_of entry_of (past 3 line))

abbrev pub base_of : List ℕ → Option WrittenBase
base_of line =
    cond (bytes_eq (word 0 line) (codes "listed")) (listed_of (past 1 line))
    (cond (bytes_eq (word 0 line) (codes "circulant")) (circulant_of (past 1 line)) None)

abbrev pub gap_end : List ℕ → Bool
gap_end [] = false
gap_end (b ∷ bs) = blank (slice_index (b ∷ bs) (length (b ∷ bs) - 1) ∷ [])

abbrev pub gap_start : List ℕ → Bool
gap_start [] = false
gap_start (b ∷ bs) = blank (b ∷ [])

abbrev pub halves_from : Option (List ℕ × List ℕ) → Option (List ℕ × List ℕ)
halves_from None = None
halves_from (Some p) = cond (gap_end p.0 && gap_start p.1) (Some p) None

abbrev pub halves_of : List ℕ → Option (List ℕ × List ℕ)
halves_of line = halves_from (cut_at 43 line)

-- BASE + BASE
abbrev pub bases_from : Option (List ℕ × List ℕ) → Option (WrittenBase × WrittenBase)
bases_from None = None
bases_from (Some p) = paired (λ first second. (first, second)) (base_of p.0) (base_of p.1)

abbrev pub bases_of : List ℕ → Option (WrittenBase × WrittenBase)
bases_of line = bases_from (halves_of line)

-- A B Z BASE · A B Z stacked BASE + BASE
abbrev pub interleaved_over : Squares → List ℕ → Option WrittenPile
interleaved_over s line =
    cond (bytes_eq (word 0 line) (codes "stacked")) (option_map (λ p. interleaved_stack s p.0 p.1) (bases_of (past 1 line))) (option_map (interleaved s) (base_of line))

abbrev pub interleaved_from : Option Squares → List ℕ → Option WrittenPile
interleaved_from None line = None
interleaved_from (Some s) line = interleaved_over s line

abbrev pub interleaved_of : List ℕ → Option WrittenPile
interleaved_of line = interleaved_from (squares_of line) (past 3 line)

-- BASE + BASE · interleaved A B Z BASE + BASE
abbrev pub stacked_of : List ℕ → Option WrittenPile
stacked_of line =
    cond (interleaved_word (word 0 line)) (paired (λ s p. interleaved_in_stack s p.0 p.1) (squares_of (past 1 line)) (bases_of (past 4 line)))
    (option_map (λ p. stacked p.0 p.1) (bases_of line))

abbrev pub pile_of : List ℕ → Option WrittenPile
pile_of line =
    cond (interleaved_word (word 0 line)) (interleaved_of (past 1 line))
    (cond (bytes_eq (word 0 line) (codes "stacked")) (stacked_of (past 1 line)) (option_map single (base_of line)))

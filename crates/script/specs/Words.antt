-- The words of a line: runs of bytes between separators.
--
--   separates     whether a byte separates words: a space, a tab or a carriage return
--   in_word       whether a byte is of a word
--   skip          the line from its first word on
--   first_word    the first word, empty where there is none
--   after_word    what follows the first word
--   past          the line past its first words
--   word          a word by its place, empty past the last
--   Split         a line's first word is taken off; there is none where the line is blank
--   blank         whether a line has no word
--   only_word     the first word of a line, empty where there is none; none where another follows
--   comment       whether a line begins with '#'
--   passed_over   whether a line is a comment or blank
--   cut_at        a text cut at the first such byte, none where it has none
use Rattle.std.specs.Borrow.{Bor}
use Rattle.std.specs.Prelude.{◌≡◌, ℕ, zero, suc, ◌+◌, Bool, false, cond, not, Some, None, Option, ◌||◌, List, [], ◌∷◌, length, take, drop, ◌==◌}
use Rattle.std.specs.List.{position, position_or_len}
use Rattle.std.specs.Option.{option_map}

abbrev pub separates : ℕ → Bool
separates byte = byte == 32 || (byte == 9 || byte == 13)

abbrev pub in_word : ℕ → Bool
in_word byte = not (separates byte)

abbrev pub skip : List ℕ → List ℕ
skip line = drop (position_or_len in_word line) line

abbrev pub first_word : List ℕ → List ℕ
first_word line = take (position_or_len separates (skip line)) (skip line)

abbrev pub after_word : List ℕ → List ℕ
after_word line = drop (position_or_len separates (skip line)) (skip line)

abbrev pub past : ℕ → List ℕ → List ℕ
past zero line = line
past (suc i) line = past i (after_word line)

abbrev pub word : ℕ → List ℕ → List ℕ
word i line = first_word (past i line)

abbrev pub Split : List ℕ → Option (Bor (List ℕ)) → List ℕ → Type 0
Split line None rest = (length (first_word line) ≡ 0) × (rest ≡ line)
Split line (Some w) rest = (w.now ≡ first_word line) × ((length w.now ≡ 0 → ⊥) × (rest ≡ after_word line))

abbrev pub blank : List ℕ → Bool
blank line = length (skip line) == 0

abbrev pub only_word : List ℕ → Option (List ℕ)
only_word line = cond (blank (after_word line)) (Some (first_word line)) None

abbrev pub comment : List ℕ → Bool
comment [] = false
comment (b ∷ bs) = b == 35

abbrev pub passed_over : List ℕ → Bool
passed_over line = comment line || blank line

abbrev pub cut_at : ℕ → List ℕ → Option (List ℕ × List ℕ)
cut_at byte text = option_map (λ i. (take i text, drop (i + 1) text)) (position (λ b. b == byte) text)

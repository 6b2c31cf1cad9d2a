-- Lines as text, and the answer to a line that is no call.
--
--   plain         whether a byte is shown as it is: printable ASCII, and no backslash
--   escaped, all_escaped      bytes as text, \xNN for each that is not plain
--   dots          '...' where a line has more than 60 bytes
--   shown         the first 60 bytes of a line as text, and the dots
--   not_understood            the answer to line k where it is no call
use Rattle.std.specs.Prelude.{ℕ, Bool, cond, not, ◌&&◌, List, [], ◌∷◌, ◌++◌, length, take, codes, decimal, ◌==◌, nat_le}
use Rattle.std.specs.Int.{is_in_range}
use Rattle.script.specs.Hex.{byte_digits}

abbrev pub plain : ℕ → Bool
plain b = is_in_range 32 126 b && not (b == 92)

abbrev pub escaped : ℕ → List ℕ
escaped b = cond (plain b) (b ∷ []) (codes "\\x" ++ byte_digits b)

abbrev pub all_escaped : List ℕ → List ℕ
all_escaped [] = []
all_escaped (b ∷ bs) = escaped b ++ all_escaped bs

abbrev pub dots : List ℕ → List ℕ
dots line = cond (nat_le (length line) 60) [] (codes "...")

abbrev pub shown : List ℕ → List ℕ
shown line = all_escaped (take 60 line) ++ dots line

abbrev pub not_understood : ℕ → List ℕ → List ℕ
not_understood k line = codes "line " ++ (decimal k ++ (codes ": not understood: " ++ shown line))

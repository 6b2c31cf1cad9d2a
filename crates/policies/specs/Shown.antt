-- A set of columns as marks.
--
--   marks_of      the set held in words, a mark for each number below n
--   shown         a set of columns as its marks
--   without       the marks without a number
--   Taken         the lowest number of a set is taken out of it; there is none where the set is empty
use Rattle.std.specs.Prelude.{◌≡◌, ℕ, Bool, false, List, map, Some, None, Option, slice_set}
use Rattle.std.specs.List.{range_with_len}
use Rattle.bits.specs.Sets.{holds}
use Rattle.method.specs.Sets.{lowest}
use Rattle.policies.specs.declared.columns.Columns.{Columns}

abbrev pub marks_of : ℕ → List ℕ → List Bool
marks_of n ws = map (holds ws) (range_with_len 0 n)

abbrev pub shown : Columns → List Bool
shown s = marks_of s.width s.words

abbrev pub without : List Bool → Option ℕ → List Bool
without s None = s
without s (Some c) = slice_set s c false

abbrev pub Taken : List Bool → Option ℕ → List Bool → Type 0
Taken s r t = (r ≡ lowest (λ b. b) s) × (t ≡ without s r)

-- Sums of symbols over places of a table.
--
--   total         the sum of a list of symbols
--   picked        the symbols of a table at the places listed, zero past its end
--   sum_at        the sum of a table's symbols at the places listed
use Rattle.std.specs.Prelude.{ℕ, List, [], ◌∷◌, map, slice_index_or}

abbrev pub total : {S : Type 0} → S → (S → S → S) → List S → S
total zero sum [] = zero
total zero sum (x ∷ xs) = sum x (total zero sum xs)

abbrev pub picked : {S : Type 0} → S → List S → List ℕ → List S
picked zero table columns = map (λ c. slice_index_or table c zero) columns

abbrev pub sum_at : {S : Type 0} → S → (S → S → S) → List S → List ℕ → S
sum_at zero sum table columns = total zero sum (picked zero table columns)

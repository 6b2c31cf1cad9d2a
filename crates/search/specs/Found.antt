-- What a search leaves for its caller to read out.
--
--   symbol_at     the symbol of a column: the right side of its row, zero where it has no row
--   wiped         the first m elements made zero, or all where there are fewer
use Rattle.std.specs.Prelude.{ℕ, min, List, ◌++◌, length, drop, replicate, Some, None, Option, slice_index_or}
use Rattle.symbols.specs.Kinds.{Kind}
use Rattle.search.specs.declared.found.Found.{Found}

abbrev pub symbol_in : {S : Type 0} → Kind S → List S → Option ℕ → S
symbol_in K ss None = K.zero
symbol_in K ss (Some r) = slice_index_or ss r K.zero

abbrev pub symbol_at : {S : Type 0} → Kind S → Found → List S → ℕ → S
symbol_at K f ss c = symbol_in K ss (slice_index_or f.rows c None)

abbrev pub wiped : {X : Type 0} → X → ℕ → List X → List X
wiped z m xs = replicate (min m (length xs)) z ++ drop m xs

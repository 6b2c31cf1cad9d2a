-- Codewords: fillings of a code's places in which every parity check holds.
--
--   Codeword      a symbol for each place, such that each row's places sum to zero
use Rattle.std.specs.Prelude.{◌≡◌, List, length}
use Rattle.std.specs.List.{AllByRecursion}
use Rattle.symbols.specs.Kinds.{Kind}
use Rattle.symbols.specs.Sums.{sum_at}
use Rattle.codes.specs.Matrix.{Matrix}

pub record Codeword {S : Type 0} (K : Kind S) (k : Matrix) (w : List S) : Type 0 where
  pub wide : length w ≡ k.width
  pub sums : AllByRecursion (λ row. sum_at K.zero K.sum w row ≡ K.zero) k.rows

-- The cell as a symbol kind.
--
--   fitted        the first 64 bytes of a list, with zeros after it where it is shorter
--   cell_of       the cell of these bytes
--   cell_sum      exclusive or, byte by byte
--   cell_kind     64 zeros, a first byte 1, the sum, and whether a cell is 64 zeros
use Rattle.std.specs.Prelude.{◌≡◌, ℕ, List, ◌∷◌, ◌++◌, length, take, replicate, bit_xor}
use Rattle.std.proofs.Common.{arith, length-append, length-take-le}
use Rattle.std.specs.Simd.Lanes.{zip2}
use Rattle.std.specs.Str.{bytes_eq}
use Rattle.symbols.specs.Kinds.{Kind}
use Rattle.symbols.specs.declared.kinds.Cell.{Cell}

abbrev pub fitted : List ℕ → List ℕ
fitted bs = take 64 (bs ++ replicate 64 0)

pub fitted_length : (bs : List ℕ) → length (fitted bs) ≡ 64
fitted_length bs = length-take-le 64 (bs ++ replicate 64 0) (omega (arith, length-append bs (replicate 64 0)))

abbrev pub cell_of : List ℕ → Cell
cell_of bs = record { bytes = fitted bs; full = fitted_length bs }

abbrev pub cell_sum : Cell → Cell → Cell
cell_sum x y = cell_of (zip2 bit_xor x.bytes y.bytes)

abbrev pub cell_kind : Kind Cell
cell_kind = record {
  zero = cell_of (replicate 64 0);
  unit = cell_of (1 ∷ replicate 63 0);
  sum = cell_sum;
  is_zero = λ x. bytes_eq x.bytes (replicate 64 0);
}

-- What interleaving does to a code and to its codewords, and stacking to theirs.
--
--   Permutation            turning is a permutation of the places below p * q, undone by turning the other way
--   read_through           a matrix read through a map of its rows and one of its columns
--   Interleaving           an interleaved code is the code below with its rows and its columns permuted
--   permuted               the word whose place c has what w has at place f c
--   InterleavedCodewords   the codewords of an interleaved code are the permuted codewords of the code below
--   StackedCodewords       the codewords of a stacked code are those that both of its codes have
use Rattle.std.specs.Prelude.{◌≡◌, ℕ, ◌*◌, ◌<◌, List, map, length, slice_index_or}
use Rattle.std.specs.List.{range_with_len}
use Rattle.symbols.specs.Kinds.{Kind}
use Rattle.codes.specs.Codewords.{Codeword}
use Rattle.codes.specs.Matrix.{Matrix, row_at, height}
use Rattle.codes.specs.Tables.{table}
use Rattle.layers.specs.Layers.{turn, interleaved, stacked}

pub record Permutation (p q : ℕ) : Type 0 where
  pub stays : (i : ℕ) → i < p * q → turn p q i < p * q
  pub undone : (i : ℕ) → turn q p (turn p q i) ≡ i

abbrev pub read_through : (ℕ → ℕ) → (ℕ → ℕ) → Matrix → Matrix
read_through f g k = table (height k) k.width (λ r. map g (row_at k (f r)))

pub record Interleaving (a b z : ℕ) (k : Matrix) : Type 0 where
  pub rows : Permutation a z × Permutation z a
  pub columns : Permutation b z × Permutation z b
  pub moved : (r : ℕ) → row_at (interleaved a b z k) (turn a z r) ≡ map (turn b z) (row_at k r)
  pub back : read_through (turn a z) (turn z b) (interleaved a b z k) ≡ k

abbrev pub permuted : {S : Type 0} → S → (ℕ → ℕ) → List S → List S
permuted zero f w = map (λ c. slice_index_or w (f c) zero) (range_with_len 0 (length w))

pub record InterleavedCodewords {S : Type 0} (K : Kind S) (a b z : ℕ) (k : Matrix) : Type 0 where
  pub above : (v : List S) → Codeword K k v → Codeword K (interleaved a b z k) (permuted K.zero (turn z b) v)
  pub below : (w : List S) → Codeword K (interleaved a b z k) w → Codeword K k (permuted K.zero (turn b z) w) × (permuted K.zero (turn z b) (permuted K.zero (turn b z) w) ≡ w)

pub record StackedCodewords {S : Type 0} (K : Kind S) (k l : Matrix) : Type 0 where
  pub both : (w : List S) → Codeword K (stacked k l) w → Codeword K k w × Codeword K l w
  pub joined : (w : List S) → Codeword K k w → Codeword K l w → Codeword K (stacked k l) w

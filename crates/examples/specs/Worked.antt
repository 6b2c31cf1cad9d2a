-- Worked examples of the whole receiver: searches over one small code, a circulant, its interleaving, and a header.
--
--   hamming             the Hamming code of seven places, by the records of its three rows
--   sent                a codeword of it
--   circulant           one line of two squares of width three, turned by 1 and by 0
--   WorkedExamples     what is answered in each case
use Rattle.std.specs.Prelude.{◌≡◌, ℕ, List, [], ◌∷◌, ◌++◌, length, pos, Ok}
use Rattle.symbols.specs.declared.kinds.Bit.{Bit}
use Rattle.packets.specs.Packets.{read_header}
use Rattle.codes.specs.Matrix.{Matrix}
use Rattle.codes.specs.Records.{listed}
use Rattle.quasi_cyclic.specs.Entries.{quasi_cyclic}
use Rattle.layers.specs.Layers.{interleaved}
use Rattle.method.specs.Method.{none, one, several}
use Rattle.policies.specs.declared.component.Component.{Component}
use Rattle.policies.specs.declared.first.First.{First}
use Rattle.policies.specs.declared.heaviest.Heaviest.{Heaviest}
use Rattle.examples.specs.Notation.{bits, ones_in, by_first, by_heaviest, by_component, found}

abbrev pub hamming : Matrix
hamming = listed 3 7 (ones_in 0 (0 ∷ 2 ∷ 4 ∷ 6 ∷ []) ++ ones_in 1 (1 ∷ 2 ∷ 5 ∷ 6 ∷ []) ++ ones_in 2 (3 ∷ 4 ∷ 5 ∷ 6 ∷ []))

abbrev pub sent : List Bit
sent = bits (1 ∷ 1 ∷ 1 ∷ 0 ∷ 0 ∷ 0 ∷ 0 ∷ [])

abbrev pub circulant : Matrix
circulant = quasi_cyclic 1 2 3 (pos 1 ∷ pos 0 ∷ [])

-- an answer's numbers are its pivots, its additions and, of several, its shortfall
pub record WorkedExamples : Type 0 where
  pub nothing_missing : (p : First) → found by_first hamming [] sent p ≡ one 0 0 sent
  pub peeled : (p : First) → found by_first hamming (0 ∷ 2 ∷ []) sent p ≡ one 0 1 sent
  pub stalled_first : (p : First) → found by_first hamming (2 ∷ 4 ∷ 6 ∷ []) sent p ≡ one 1 4 sent
  pub stalled_heaviest : (p : Heaviest) → found (by_heaviest hamming) hamming (2 ∷ 4 ∷ 6 ∷ []) sent p ≡ one 1 3 sent
  pub stalled_component : (p : Component Heaviest) → found (by_component hamming) hamming (2 ∷ 4 ∷ 6 ∷ []) sent p ≡ one 1 4 sent
  pub not_settled : (p : First) → found by_first hamming (0 ∷ 1 ∷ 2 ∷ []) sent p ≡ several 1 1 1
  pub contradicted : (p : First) → found by_first hamming (0 ∷ 1 ∷ 2 ∷ []) (bits (1 ∷ 1 ∷ 1 ∷ 1 ∷ 0 ∷ 0 ∷ 0 ∷ [])) p ≡ none 1 1
  pub all_missing : (p : First) → found by_first hamming (0 ∷ 1 ∷ 2 ∷ 3 ∷ 4 ∷ 5 ∷ 6 ∷ []) sent p ≡ several 5 4 4
  pub no_codeword : (p : First) → found by_first hamming [] (bits (1 ∷ 1 ∷ 1 ∷ 0 ∷ 0 ∷ 0 ∷ 1 ∷ [])) p ≡ none 0 0
  pub circulant_rows : circulant.rows ≡ (1 ∷ 3 ∷ []) ∷ (2 ∷ 4 ∷ []) ∷ (0 ∷ 5 ∷ []) ∷ []
  pub interleaved_rows : (interleaved 1 2 3 circulant).rows ≡ (2 ∷ 1 ∷ []) ∷ (4 ∷ 3 ∷ []) ∷ (0 ∷ 5 ∷ []) ∷ []
  pub header_read : (cell : List ℕ) → length cell ≡ 64 → read_header (0x00 ∷ 0x50 ∷ 0x00 ∷ 0x07 ∷ cell) ≡ Ok (5, 7)

-- Examples that tell the rules from mistakes that the worked examples do not show: each with what the mistaken rule answers.
--
--   tied                a code of five rows and five columns, with ties in weights and in joined sets
--   lost, zeros         all its places; its one codeword
--   all_active          all its columns, as marks
--   TellingExamples    what is answered in each case
use Rattle.std.specs.Prelude.{◌≡◌, ℕ, Bool, List, [], ◌∷◌, ◌++◌, Some}
use Rattle.symbols.specs.declared.kinds.Bit.{Bit}
use Rattle.codes.specs.Matrix.{Matrix}
use Rattle.codes.specs.Records.{listed}
use Rattle.method.specs.Method.{one}
use Rattle.method.specs.Choices.{plain, heaviest, largest}
use Rattle.policies.specs.Layered.{asking_below}
use Rattle.policies.specs.declared.component.Component.{Component}
use Rattle.policies.specs.declared.first.First.{First}
use Rattle.policies.specs.declared.heaviest.Heaviest.{Heaviest}
use Rattle.examples.specs.Notation.{bits, all_but, ones_in, by_first, by_heaviest, by_component, found}
use Rattle.examples.specs.Mistaken.{found_settling_highest, heaviest_highest, heaviest_by_all_rows, component_highest, largest_by_all_rows}

abbrev pub tied : Matrix
tied = listed 5 5 (ones_in 0 (0 ∷ 1 ∷ 2 ∷ []) ++ ones_in 1 (3 ∷ 4 ∷ []) ++ ones_in 2 (1 ∷ 2 ∷ []) ++ ones_in 3 (0 ∷ 1 ∷ 3 ∷ []) ++ ones_in 4 (2 ∷ 3 ∷ 4 ∷ []))

abbrev pub lost : List ℕ
lost = 0 ∷ 1 ∷ 2 ∷ 3 ∷ 4 ∷ []

abbrev pub zeros : List Bit
zeros = bits (0 ∷ 0 ∷ 0 ∷ 0 ∷ 0 ∷ [])

abbrev pub all_active : List Bool
all_active = all_but 5 []

-- each mistaken rule beside the right one; in a search a used row has no active column left, so that rules which count such rows
-- differ only where a policy is asked directly
pub record TellingExamples : Type 0 where
  pub settles_lowest : (p : First) → found by_first tied lost zeros p ≡ one 2 12 zeros
  pub mistaken_settles_highest : (p : First) → found_settling_highest by_first tied lost zeros p ≡ one 2 10 zeros
  pub heaviest_lowest : (p : Heaviest) → found (by_heaviest tied) tied lost zeros p ≡ one 1 9 zeros
  pub mistaken_heaviest_highest : (p : Heaviest) → found (plain (heaviest_highest tied)) tied lost zeros p ≡ one 1 7 zeros
  pub component_lowest : (p : Component Heaviest) → found (by_component tied) tied lost zeros p ≡ one 1 9 zeros
  pub mistaken_component_highest : (p : Component Heaviest) → found (component_highest tied (asking_below (by_heaviest tied))) tied lost zeros p ≡ one 1 7 zeros
  pub heaviest_by_unused : heaviest tied all_active (all_but 5 (0 ∷ [])) ≡ Some 3
  pub mistaken_heaviest_by_all : heaviest_by_all_rows tied all_active (all_but 5 (0 ∷ [])) ≡ Some 1
  pub joined_by_unused : largest tied all_active (all_but 5 (2 ∷ [])) ≡ Some 3
  pub mistaken_joined_by_all : largest_by_all_rows tied all_active (all_but 5 (2 ∷ [])) ≡ Some 1

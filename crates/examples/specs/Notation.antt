-- How the examples are written.
--
--   bits          symbols, 0 for zero and any other number for one
--   all_but       the numbers below n that are not listed, as marks
--   ones_in       the records of a row with these columns
--   by_first, by_heaviest, by_component    the choices of the policies, the last over heaviest
--   heard         the symbols of a word at the places received, zero at the others
--   found         what a search answers where the listed places of a word are missing
use Rattle.std.specs.Prelude.{ℕ, zero, suc, Bool, cond, not, List, map, length, slice_index_or}
use Rattle.std.specs.List.{range_with_len}
use Rattle.symbols.specs.Bits.{bit_kind}
use Rattle.symbols.specs.declared.kinds.Bit.{Bit}
use Rattle.symbols.specs.declared.kinds.Bit.TheVariants.{Zero, One}
use Rattle.codes.specs.Matrix.{Matrix, member}
use Rattle.codes.specs.declared.record.Record.{Record}
use Rattle.method.specs.Sets.{has}
use Rattle.method.specs.Method.{Choice, Outcome, method}
use Rattle.method.specs.Choices.{plain, first, heaviest, component}
use Rattle.policies.specs.Layered.{asking_below}
use Rattle.policies.specs.declared.component.Component.{Component}
use Rattle.policies.specs.declared.first.First.{First}
use Rattle.policies.specs.declared.heaviest.Heaviest.{Heaviest}

abbrev pub bit : ℕ → Bit
bit zero = Zero
bit (suc n) = One

abbrev pub bits : List ℕ → List Bit
bits ns = map bit ns

abbrev pub all_but : ℕ → List ℕ → List Bool
all_but n listed = map (λ c. not (member c listed)) (range_with_len 0 n)

abbrev pub ones_in : ℕ → List ℕ → List Record
ones_in r columns = map (λ c. record { row = r; column = c }) columns

abbrev pub by_first : Choice First
by_first = plain (λ a u. first a)

abbrev pub by_heaviest : Matrix → Choice Heaviest
by_heaviest k = plain (heaviest k)

abbrev pub by_component : Matrix → Choice (Component Heaviest)
by_component k = component k (asking_below (by_heaviest k))

abbrev pub heard : List Bool → List Bit → List Bit
heard got word = map (λ c. cond (has got c) (slice_index_or word c Zero) Zero) (range_with_len 0 (length got))

abbrev pub found : {P : Type 0} → Choice P → Matrix → List ℕ → List Bit → P → Outcome Bit
found choice k lost word p = let got : List Bool = all_but k.width lost in method bit_kind choice k got (heard got word) p

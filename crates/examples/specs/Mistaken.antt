-- Mistaken rules, each with one thing wrong, for the examples that tell them from the right ones.
--
--   settling_highest         each pivot takes the highest unused row that holds it
--   found_settling_highest   what a search that settles so answers
--   top_highest              the heaviest active column, the highest on a tie
--   heaviest_highest         heaviest by that
--   heaviest_by_all_rows     heaviest that counts used rows too
--   largest_highest          the largest joined set, the highest on a tie
--   component_highest        component over another policy by that
--   largest_by_all_rows      the largest set that used rows join too
use Rattle.std.specs.Prelude.{ℕ, zero, suc, Bool, true, false, cond, List, [], ◌∷◌, length, replicate, Some, None, Option, nat_le}
use Rattle.symbols.specs.Bits.{bit_kind}
use Rattle.symbols.specs.declared.kinds.Bit.{Bit}
use Rattle.codes.specs.Matrix.{Matrix, height}
use Rattle.method.specs.Sets.{has}
use Rattle.method.specs.Method.{State, Choice, Outcome, holder, settle_at, start, steps, answer}
use Rattle.method.specs.Choices.{column_weight, heaviest, joins, label, labels, size_of, largest, or_below}
use Rattle.examples.specs.Notation.{all_but, heard}

abbrev pub or_further : Bool → Option ℕ → Option ℕ
or_further true None = Some 0
or_further false None = None
or_further b (Some r) = Some (suc r)

abbrev pub highest : {A : Type 0} → (A → Bool) → List A → Option ℕ
highest p [] = None
highest p (x ∷ xs) = or_further (p x) (highest p xs)

abbrev pub settling_highest : {P : Type 0} → List ℕ → State Bit P → State Bit P
settling_highest [] s = s
settling_highest (c ∷ cs) s = settling_highest cs (settle_at bit_kind c (highest (holder c) s.rows) s)

abbrev pub found_settling_highest : {P : Type 0} → Choice P → Matrix → List ℕ → List Bit → P → Outcome Bit
found_settling_highest {P} choice k lost word p =
    let got : List Bool = all_but k.width lost in
    let s : State Bit P = steps bit_kind choice k.width (start bit_kind k got (heard got word) p) in
    answer bit_kind k got (heard got word) (settling_highest s.pivots s)

abbrev pub as_good : (ℕ → ℕ) → ℕ → Bool → Option ℕ → Option ℕ
as_good w c false o = o
as_good w c true None = Some c
as_good w c true (Some b) = cond (nat_le (w b) (w c)) (Some c) (Some b)

abbrev pub top_highest : (ℕ → ℕ) → List Bool → ℕ → Option ℕ
top_highest w a zero = None
top_highest w a (suc n) = as_good w n (has a n) (top_highest w a n)

abbrev pub heaviest_highest : Matrix → List Bool → List Bool → Option ℕ
heaviest_highest k a u = top_highest (column_weight k u) a (length a)

abbrev pub heaviest_by_all_rows : Matrix → List Bool → List Bool → Option ℕ
heaviest_by_all_rows k a u = heaviest k a (replicate (height k) true)

abbrev pub highest_of : List Bool → List (ℕ × ℕ) → Option ℕ
highest_of a [] = None
highest_of a (e ∷ es) = top_highest (size_of a (label (labels (length a) (e ∷ es)))) a (length a)

abbrev pub largest_highest : Matrix → List Bool → List Bool → Option ℕ
largest_highest k a u = highest_of a (joins k a u (height k))

abbrev pub component_highest : {P : Type 0} → Matrix → Choice P → Choice P
component_highest k below p a u = or_below (largest_highest k a u) p (below p a u)

abbrev pub largest_by_all_rows : Matrix → List Bool → List Bool → Option ℕ
largest_by_all_rows k a u = largest k a (replicate (height k) true)

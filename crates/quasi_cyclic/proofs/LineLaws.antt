-- The line of squares that holds a row.
use Rattle.std.proofs.Common.{◌≡◌, ℕ, zero, suc, ◌+◌, ◌*◌, ◌/◌, ◌<◌, ◌≤◌, true, false, List, [], ◌∷◌, length, get_or, take, drop, ℤ, pos, is_some, sym, ap, ◌∙◌, subst, mul-le-mul_right, suc-mul, mul_comm, mul-le-mul, arith}
use Rattle.std.specs.List.{slice_get}
use Rattle.std.proofs.lemmas.Nat.{div_below}
use Rattle.std.proofs.lemmas.List.{length-take, get_or-take, get_or-drop}
use Rattle.codes.specs.RecordLaws.{went_on}
use Rattle.codes.specs.Tables.{table_at, table_past}
use Rattle.quasi_cyclic.specs.Entries.{line_row, line_of, entry_fits, first_bad_entry}
use Rattle.quasi_cyclic.specs.EntryLaws.{Sizes, sizes, whole_line, line_length}
use Rattle.quasi_cyclic.specs.Lines.{Line}
use Rattle.quasi_cyclic.specs.declared.circulant.QuasiCyclic.{QuasiCyclic}

-- entries without a bad one are all in range
all_right : (z i : ℕ) (es : List ℤ) → is_some (first_bad_entry z i es) ≡ false → (k : ℕ) → k < length es → entry_fits z (get_or es k (pos 0)) ≡ true
all_right z i [] e k h = absurd (omega arith)
all_right z i (x ∷ xs) e zero h = (went_on (entry_fits z x) i (first_bad_entry z (i + 1) xs) e).0
all_right z i (x ∷ xs) e (suc k) h = all_right z (i + 1) xs (went_on (entry_fits z x) i (first_bad_entry z (i + 1) xs) e).1 k (omega arith)

le_product : (a z : ℕ) → 1 ≤ z → a ≤ a * z
le_product a zero h = absurd (omega arith)
le_product a (suc z) h = omega (arith, mul_comm a (suc z), suc-mul z a)

module _ (a b z : ℕ) (es : List ℤ) (s : Sizes a b z (length es)) where
  small : z ≤ 512
  small = omega (arith, s.few_columns, mul_comm z b, le_product z b s.some_b)

  line_within : (r : ℕ) → r < a * z → (r / z * b + b ≤ length es) × (length es ≤ 131072)
  line_within r h =
      let few_a : a ≤ 256 = omega (arith, s.few_rows, le_product a z s.some_z) in
      let few_b : b ≤ 512 = omega (arith, s.few_columns, le_product b z s.some_z) in
      (omega (arith, whole_line a b (r / z) (div_below r z a s.some_z h), s.whole), omega (arith, s.whole, mul-le-mul few_a few_b))

  module _ (e : is_some (first_bad_entry z 0 es) ≡ false) (r : ℕ) where
    line_past : a * z ≤ r → Line a b z es r []
    line_past h = record {
      some = s.some_z;
      small = small;
      narrow = omega (arith, s.few_columns, mul-le-mul_right {m = 0} {n = b} z (omega arith));
      right = λ k u. absurd (omega arith);
      wide = sym (ap length (table_past (a * z) (b * z) (λ r. line_row z r 0 (line_of b z es r)) r h));
      places = λ i. sym (ap (λ row. slice_get row i) (table_past (a * z) (b * z) (λ r. line_row z r 0 (line_of b z es r)) r h));
      row = sym (table_past (a * z) (b * z) (λ r. line_row z r 0 (line_of b z es r)) r h);
    }

    line_at : r < a * z → Line a b z es r (line_of b z es r)
    line_at h =
        let line = line_of b z es r in
        let short : length line ≤ b = simp length-take (omega arith) in
        record {
          some = s.some_z;
          small = small;
          narrow = omega (arith, s.few_columns, mul-le-mul_right z short);
          right = λ k u. ap (entry_fits z) (get_or-take b (drop (r / z * b) es) k (pos 0) (omega arith) ∙ get_or-drop (r / z * b) es k (pos 0)) ∙ all_right z 0 es e (r / z * b + k) (omega (arith, (line_within r h).0));
          wide = sym (ap length (table_at (a * z) (b * z) (λ r. line_row z r 0 (line_of b z es r)) r h) ∙ line_length z r 0 line);
          places = λ i. sym (ap (λ row. slice_get row i) (table_at (a * z) (b * z) (λ r. line_row z r 0 (line_of b z es r)) r h));
          row = sym (table_at (a * z) (b * z) (λ r. line_row z r 0 (line_of b z es r)) r h);
        }

-- the same of a code, whose ghost fields give the facts
module _ (k : QuasiCyclic) (r : ℕ) where
  pub within : r < k.squares.a * k.squares.z → (r / k.squares.z * k.squares.b + k.squares.b ≤ length k.entries.now) × (length k.entries.now ≤ 131072)
  within = line_within k.squares.a k.squares.b k.squares.z k.entries.now (sizes k.squares.a k.squares.b k.squares.z (length k.entries.now) k.sized) r

  pub no_line : k.squares.a * k.squares.z ≤ r → Line k.squares.a k.squares.b k.squares.z k.entries.now r []
  no_line = line_past k.squares.a k.squares.b k.squares.z k.entries.now (sizes k.squares.a k.squares.b k.squares.z (length k.entries.now) k.sized) k.right r

  pub the_line : (n : ℕ) → k.squares.b ≡ n → r < k.squares.a * k.squares.z → Line k.squares.a k.squares.b k.squares.z k.entries.now r (take n (drop (r / k.squares.z * k.squares.b) k.entries.now))
  the_line n e h =
      let P : ℕ → Type 0 = λ n. Line k.squares.a k.squares.b k.squares.z k.entries.now r (take n (drop (r / k.squares.z * k.squares.b) k.entries.now)) in
      subst P e (line_at k.squares.a k.squares.b k.squares.z k.entries.now (sizes k.squares.a k.squares.b k.squares.z (length k.entries.now) k.sized) k.right r h)

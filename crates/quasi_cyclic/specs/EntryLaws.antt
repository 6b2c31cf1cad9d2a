-- Base entries in range make a lawful code. (Lemmas: nothing here is to be believed.)
--
--   Sizes, sizes          the bounds that `base_fits` tells
--   whole_line            the entries of a line lie within the list
--   line_length           a row has a column for each square that is not empty
--   circulant_ones, circulant_lawful    the ones of a quasi-cyclic code, and that it is lawful
use Rattle.std.specs.Prelude.{◌≡◌, ℕ, zero, suc, ◌+◌, ◌*◌, ◌/◌, ◌%◌, ◌<◌, ◌≤◌, true, ◌&&◌, List, [], ◌∷◌, ◌++◌, length, take, drop, ℤ, pos, Some, None, Option, ◌==◌, nat_le, slice_index_or, refl}
use Rattle.std.proofs.Common.{sym, ap, ◌∙◌, arith, zero-mul, suc-mul, mul_comm, mul-le-mul_right}
use Rattle.std.specs.List.{AllByRecursion}
use Rattle.std.proofs.lemmas.Nat.{div-mul-add, mod_below}
use Rattle.std.proofs.ByRecursion.{All-weaker}
use Rattle.std.proofs.lemmas.List.{length-take, length-drop, get_or-take, get_or-drop}
use Rattle.std.proofs.lemmas.List.Sums.{sum_by-cons}
use Rattle.std.proofs.lemmas.Bool.{and_parts, eqb-true, leb-true}
use Rattle.codes.specs.Matrix.{Row, Lawful, Apart, ones}
use Rattle.codes.specs.MatrixLaws.{not_member}
use Rattle.codes.specs.Tables.{table_ones, table_lawful}
use Rattle.codes.specs.Totals.{Σ, Σ_same, Σ_list, Σ_blocks, Σ_swap, Σ_const}
use Rattle.quasi_cyclic.specs.Entries.{shift_of, filled, turned, square_row, line_row, line_of, quasi_cyclic, base_fits, filled_squares}

pub record Sizes (a b z len : ℕ) : Type 0 where
  pub some_a : 1 ≤ a
  pub some_b : 1 ≤ b
  pub some_z : 1 ≤ z
  pub few_rows : a * z ≤ 256
  pub few_columns : b * z ≤ 512
  pub whole : len ≡ a * b

pub sizes : (a b z len : ℕ) → base_fits a b z len ≡ true → Sizes a b z len
sizes a b z len f =
    let p = and_parts (nat_le 1 a && (nat_le 1 b && nat_le 1 z)) ((nat_le (a * z) 256 && nat_le (b * z) 512) && len == a * b) f in
    let q = and_parts (nat_le 1 a) (nat_le 1 b && nat_le 1 z) p.0 in
    let r = and_parts (nat_le 1 b) (nat_le 1 z) q.1 in
    let s = and_parts (nat_le (a * z) 256 && nat_le (b * z) 512) (len == a * b) p.1 in
    let t = and_parts (nat_le (a * z) 256) (nat_le (b * z) 512) s.0 in
    record { some_a = leb-true _ _ q.0; some_b = leb-true _ _ r.0; some_z = leb-true _ _ r.1; few_rows = leb-true _ _ t.0; few_columns = leb-true _ _ t.1; whole = eqb-true _ _ s.1 }

-- what a row holds of a square and of those after it, by whether the square is empty
by_square : (P : List ℕ → Type 0) (z r s : ℕ) (o : Option ℕ) (xs : List ℕ) → ((t : ℕ) → P ((s + turned z r t) ∷ xs)) → P xs → P (square_row z r s o ++ xs)
by_square P z r s (Some t) xs h k = h t
by_square P z r s None xs h k = k

square_length : (z r s : ℕ) (o : Option ℕ) (xs : List ℕ) → length (square_row z r s o ++ xs) ≡ filled o + length xs
square_length z r s (Some t) xs = omega arith
square_length z r s None xs = omega arith

pub line_length : (z r s : ℕ) (es : List ℤ) → length (line_row z r s es) ≡ filled_squares es
line_length z r s [] = refl
line_length z r s (e ∷ es) = square_length z r s (shift_of e) (line_row z r (s + z) es) ∙ ap (λ v. filled (shift_of e) + v) (line_length z r (s + z) es) ∙ sym (sum_by-cons (λ e. filled (shift_of e)) e es)

-- the columns of a line lie within its squares
pub line_columns : (z r s : ℕ) (es : List ℤ) → 1 ≤ z → AllByRecursion (λ c. (s ≤ c) × (c < s + length es * z)) (line_row z r s es)
line_columns z r s [] pz = tt
line_columns z r s (e ∷ es) pz =
    let rest : AllByRecursion (λ c. (s ≤ c) × (c < s + suc (length es) * z)) (line_row z r (s + z) es) =
    All-weaker (λ c. (s + z ≤ c) × (c < s + z + length es * z)) (λ c. (s ≤ c) × (c < s + suc (length es) * z)) (λ c p. (omega arith, omega (arith, p.1, suc-mul (length es) z))) (line_row z r (s + z) es) (line_columns z r (s + z) es pz) in
    by_square (AllByRecursion (λ c. (s ≤ c) × (c < s + suc (length es) * z))) z r s (shift_of e) (line_row z r (s + z) es)
    (λ t. ((omega arith, omega (arith, mod_below (r % z + t) z pz, suc-mul (length es) z)), rest))
    rest

line_apart : (z r s : ℕ) (es : List ℤ) → 1 ≤ z → Apart (line_row z r s es)
line_apart z r s [] pz = tt
line_apart z r s (e ∷ es) pz =
    let rest = line_apart z r (s + z) es pz in
    by_square Apart z r s (shift_of e) (line_row z r (s + z) es)
    (λ t. (
      not_member (s + turned z r t) (line_row z r (s + z) es)
          (All-weaker (λ c. (s + z ≤ c) × (c < s + z + length es * z)) (λ c. s + turned z r t < c) (λ c p. omega (arith, p.0, mod_below (r % z + t) z pz)) (line_row z r (s + z) es) (line_columns z r (s + z) es pz)),
      rest,
    ))
    rest

circulant_row : (b z : ℕ) (es : List ℤ) → 1 ≤ z → (r : ℕ) → Row (b * z) (line_row z r 0 (line_of b z es r))
circulant_row b z es pz r =
    let line = line_of b z es r in
    let short : length line ≤ b = simp length-take (omega arith) in
    record {
      within = All-weaker (λ c. (0 ≤ c) × (c < 0 + length line * z)) (λ c. c < b * z) (λ c p. omega (arith, p.1, mul-le-mul_right z short)) (line_row z r 0 line) (line_columns z r 0 line pz);
      apart = line_apart z r 0 line pz;
    }

pub whole_line : (a b x : ℕ) → x < a → x * b + b ≤ a * b
whole_line a b x h = omega (arith, mul-le-mul_right b h, suc-mul x b)

-- the squares of line x that are not empty
abbrev line_squares : ℕ → List ℤ → ℕ → ℕ
line_squares b es x = filled_squares (take b (drop (x * b) es))

one_line : (a b x : ℕ) (es : List ℤ) → length es ≡ a * b → x < a → line_squares b es x ≡ Σ (λ j. filled (shift_of (slice_index_or es (x * b + j) (pos 0)))) 0 b
one_line a b x es e h =
    let line = take b (drop (x * b) es) in
    let full : length line ≡ b = simp (length-take, length-drop) (omega (arith, whole_line a b x h)) in
    sym (Σ_list (λ e. filled (shift_of e)) (pos 0) line)
    ∙ ap (λ n. Σ (λ j. filled (shift_of (slice_index_or line j (pos 0)))) 0 n) full
    ∙ Σ_same (λ j. filled (shift_of (slice_index_or line j (pos 0)))) (λ j. filled (shift_of (slice_index_or es (x * b + j) (pos 0)))) 0 b
    (λ j _ u. ap (λ e. filled (shift_of e)) (get_or-take b (drop (x * b) es) j (pos 0) (omega arith) ∙ get_or-drop (x * b) es j (pos 0)))

all_lines : (a b : ℕ) (es : List ℤ) → length es ≡ a * b → Σ (line_squares b es) 0 a ≡ filled_squares es
all_lines a b es e =
    Σ_same (line_squares b es) (λ x. Σ (λ j. filled (shift_of (slice_index_or es (x * b + j) (pos 0)))) 0 b) 0 a (λ x _ u. one_line a b x es e (omega arith))
    ∙ sym (Σ_blocks (λ i. filled (shift_of (slice_index_or es i (pos 0)))) 0 a b)
    ∙ ap (λ s. Σ (λ i. filled (shift_of (slice_index_or es i (pos 0)))) s (a * b)) (zero-mul b)
    ∙ ap (λ n. Σ (λ i. filled (shift_of (slice_index_or es i (pos 0)))) 0 n) (sym e)
    ∙ Σ_list (λ e. filled (shift_of e)) (pos 0) es

pub circulant_ones : (a b z : ℕ) (es : List ℤ) → length es ≡ a * b → ones (quasi_cyclic a b z es) ≡ filled_squares es * z
circulant_ones a b z es e =
    table_ones (a * z) (b * z) (λ r. line_row z r 0 (line_of b z es r))
    ∙ Σ_same (λ r. length (line_row z r 0 (line_of b z es r))) (λ r. line_squares b es (r / z)) 0 (a * z) (λ r _ _. line_length z r 0 (line_of b z es r))
    ∙ ap (λ s. Σ (λ r. line_squares b es (r / z)) s (a * z)) (sym (zero-mul z))
    ∙ Σ_blocks (λ r. line_squares b es (r / z)) 0 a z
    ∙ Σ_same (λ x. Σ (λ y. line_squares b es ((x * z + y) / z)) 0 z) (λ x. Σ (λ y. line_squares b es x) 0 z) 0 a
    (λ x _ _. Σ_same (λ y. line_squares b es ((x * z + y) / z)) (λ y. line_squares b es x) 0 z (λ y _ u. ap (line_squares b es) (div-mul-add x z y (omega arith))))
    ∙ Σ_swap (λ x y. line_squares b es x) 0 a 0 z
    ∙ Σ_same (λ y. Σ (line_squares b es) 0 a) (λ y. filled_squares es) 0 z (λ y _ _. all_lines a b es e)
    ∙ Σ_const (filled_squares es) 0 z
    ∙ mul_comm z (filled_squares es)

some_product : (b z : ℕ) → 1 ≤ b → 1 ≤ z → 1 ≤ b * z
some_product zero z h k = absurd (omega arith)
some_product (suc b) z h k = omega (arith, suc-mul b z)

pub circulant_lawful : (a b z n : ℕ) (es : List ℤ) → base_fits a b z (length es) ≡ true → n ≡ filled_squares es * z → n ≤ 4096 → Lawful (quasi_cyclic a b z es)
circulant_lawful a b z n es f count few =
    let s = sizes a b z (length es) f in
    table_lawful (a * z) (b * z) (λ r. line_row z r 0 (line_of b z es r))
    (some_product a z s.some_a s.some_z) s.few_rows (some_product b z s.some_b s.some_z) s.few_columns
    (omega (arith, circulant_ones a b z es s.whole))
    (circulant_row b z es s.some_z)

-- Layers over lawful codes are lawful. (Lemmas: nothing here is to be believed.)
--
--   turn_small, turn_large, turned_in, turn_in, turn_back   turning below p * q and past it, that it stays below, and how it is undone
--   squares_parts         what `squares_fit` tells
--   turned_ones, interleaved_lawful    the ones of an interleaved code, and that it is lawful
--   stack_parts           what `stack_fits` tells
--   stacked_lawful        a stacked code is lawful
use Rattle.std.specs.Prelude.{◌≡◌, ℕ, zero, suc, ◌+◌, ◌*◌, ◌/◌, ◌%◌, ◌<◌, ◌≤◌, true, ◌&&◌, ◌||◌, List, [], ◌∷◌, ◌++◌, map, length, sum_by, ◌==◌, nat_eq, nat_le, refl}
use Rattle.std.proofs.Common.{sym, ap, subst, ◌∙◌, ⊎_elim, arith, add_comm, mul_comm, zero-mul}
use Rattle.std.proofs.Math.Arith.{digits_lt}
use Rattle.std.specs.List.{AllByRecursion}
use Rattle.std.proofs.lemmas.Nat.{div-add-mod', div-mul-add, mod-mul-add, div_below, mod_below}
use Rattle.std.proofs.ByRecursion.{All-append, All-map, All-weaker}
use Rattle.std.proofs.lemmas.List.{length-map, length-append}
use Rattle.std.proofs.lemmas.List.Sums.{sum_by-append}
use Rattle.std.proofs.lemmas.Bool.{cond-true, cond-false, cond_both, and_parts, eqb-true, leb-true, eq-eqb, ne_eqb, lt-ltb, le-ltb, cases_eq, cases_lt}
use Rattle.codes.specs.Matrix.{Matrix, Row, Lawful, Apart, member, height, weight, ones, row_at}
use Rattle.codes.specs.MatrixLaws.{row_lawful}
use Rattle.codes.specs.Shapes.{shape_of}
use Rattle.codes.specs.Tables.{table, table_ones, table_lawful}
use Rattle.codes.specs.Totals.{Σ, Σ_same, Σ_list, Σ_turned}
use Rattle.layers.specs.Layers.{turn, squares_fit, interleaved_row, interleaved, stack_fits, stacked}

-- a product that is not 0 has no factor 0
pub left_some : (p q : ℕ) → 1 ≤ p * q → 0 < p
left_some zero q h = absurd (omega (arith, zero-mul q))
left_some (suc p) q h = omega arith

pub right_some : (p q : ℕ) → 1 ≤ p * q → 0 < q
right_some p q h = left_some q p (omega (arith, mul_comm p q))

module _ (p q : ℕ) where
  pub turn_small : (i : ℕ) → i < p * q → turn p q i ≡ i / q + i % q * p
  turn_small i h = cond-true _ _ _ (lt-ltb i (p * q) h)

  pub turn_large : (i : ℕ) → p * q ≤ i → turn p q i ≡ i
  turn_large i h = cond-false _ _ _ (le-ltb i (p * q) h)

  pub turned_in : (i : ℕ) → i < p * q → i / q + i % q * p < q * p
  turned_in i h =
      let some : 0 < q = right_some p q (omega arith) in
      let x : i / q < p = div_below i q p some h in
      let y : i % q < q = mod_below i q some in
      omega (arith, digits_lt y x)

  pub turn_in : (i n : ℕ) → n ≡ p * q → i < n → turn p q i < n
  turn_in i n e h = omega (arith, turn_small i (omega arith), turned_in i (omega arith), mul_comm p q)

  turned_back : (i : ℕ) → i < p * q → (i / q + i % q * p) / p + (i / q + i % q * p) % p * q ≡ i
  turned_back i h =
      let some : 0 < q = right_some p q (omega arith) in
      let x : i / q < p = div_below i q p some h in
      ap (λ j. j / p + j % p * q) (add_comm (i / q) (i % q * p))
      ∙ ap (λ v. v + (i % q * p + i / q) % p * q) (div-mul-add (i % q) p (i / q) x)
      ∙ ap (λ v. i % q + v * q) (mod-mul-add (i % q) p (i / q) x)
      ∙ add_comm (i % q) (i / q * q)
      ∙ div-add-mod' i q

-- turning is undone by turning the other way
pub turn_back : (p q i : ℕ) → turn q p (turn p q i) ≡ i
turn_back p q i =
    ⊎_elim
    (λ (h : i < p * q). ap (turn q p) (turn_small p q i h) ∙ turn_small q p (i / q + i % q * p) (turned_in p q i h) ∙ turned_back p q i h)
    (λ (h : p * q ≤ i). ap (turn q p) (turn_large p q i h) ∙ turn_large q p i (omega (arith, mul_comm p q)))
    (cases_lt i (p * q))

-- a map with a way back keeps different columns apart
member_map : (f g : ℕ → ℕ) → ((c : ℕ) → g (f c) ≡ c) → (x : ℕ) (xs : List ℕ) → member (f x) (map f xs) ≡ member x xs
member_map f g back x [] = refl
member_map f g back x (c ∷ cs) =
    let same : nat_eq (f c) (f x) ≡ nat_eq c x =
    ⊎_elim
    (λ (q : c ≡ x). eq-eqb (f c) (f x) (ap f q) ∙ sym (eq-eqb c x q))
    (λ (q : c ≡ x → ⊥). ne_eqb (f c) (f x) (λ i. q (sym (back c) ∙ ap g i ∙ back x)) ∙ sym (ne_eqb c x q))
    (cases_eq c x) in
    ap (λ b. b || member (f x) (map f cs)) same ∙ ap (λ b. (c == x) || b) (member_map f g back x cs)

apart_map : (f g : ℕ → ℕ) → ((c : ℕ) → g (f c) ≡ c) → (xs : List ℕ) → Apart xs → Apart (map f xs)
apart_map f g back [] p = tt
apart_map f g back (x ∷ xs) p = (member_map f g back x xs ∙ p.0, apart_map f g back xs p.1)

turned_row : (b z n : ℕ) (row : List ℕ) → n ≡ b * z → Row n row → Row n (map (turn b z) row)
turned_row b z n row e p = record {
  within = All-map (λ c. c < n) (turn b z) row (All-weaker (λ c. c < n) (λ c. turn b z c < n) (λ c h. turn_in b z c n e h) row p.within);
  apart = apart_map (turn b z) (turn z b) (turn_back b z) row p.apart;
}

pub squares_parts : (a b z : ℕ) (k : Matrix) → squares_fit a b z (shape_of k) ≡ true → (height k ≡ a * z) × (k.width ≡ b * z)
squares_parts a b z k f = let p = and_parts (height k == a * z) (k.width == b * z) f in (eqb-true _ _ p.0, eqb-true _ _ p.1)

pub turned_ones : (a b z : ℕ) (k : Matrix) → height k ≡ a * z → ones (table (height k) k.width (interleaved_row a b z k)) ≡ ones k
turned_ones a b z k e =
    table_ones (height k) k.width (interleaved_row a b z k)
    ∙ Σ_same (λ r. length (interleaved_row a b z k r)) (λ r. weight k (r / a + r % a * z)) 0 (height k)
    (λ r _ u. length-map (row_at k (turn z a r)) (turn b z) ∙ ap (weight k) (turn_small z a r (omega (arith, mul_comm a z))))
    ∙ ap (λ h. Σ (λ r. weight k (r / a + r % a * z)) 0 h) e
    ∙ Σ_turned (weight k) a z
    ∙ ap (λ h. Σ (weight k) 0 h) (sym e)
    ∙ Σ_list length [] k.rows

turned_lawful : (a b z : ℕ) (k : Matrix) → Lawful k → squares_fit a b z (shape_of k) ≡ true → Lawful (table (height k) k.width (interleaved_row a b z k))
turned_lawful a b z k p f =
    let s = squares_parts a b z k f in
    table_lawful (height k) k.width (interleaved_row a b z k)
    p.some_row p.few_rows p.some_column p.few_columns
    (omega (arith, turned_ones a b z k s.0, p.few_ones))
    (λ r. turned_row b z k.width (row_at k (turn z a r)) s.1 (row_lawful k p (turn z a r)))

pub interleaved_lawful : (a b z : ℕ) (k : Matrix) → Lawful k → Lawful (interleaved a b z k)
interleaved_lawful a b z k p =
    cond_both (squares_fit a b z (shape_of k)) (table (height k) k.width (interleaved_row a b z k)) k Lawful (turned_lawful a b z k p) (λ _. p)

pub record Stack (k l : Matrix) : Type 0 where
  pub level : k.width ≡ l.width
  pub few_rows : height k + height l ≤ 256
  pub few_ones : ones k + ones l ≤ 4096

pub stack_parts : (k l : Matrix) → stack_fits k l ≡ true → Stack k l
stack_parts k l f =
    let p = and_parts (k.width == l.width) (nat_le (height k + height l) 256 && nat_le (ones k + ones l) 4096) f in
    let q = and_parts (nat_le (height k + height l) 256) (nat_le (ones k + ones l) 4096) p.1 in
    record { level = eqb-true _ _ p.0; few_rows = leb-true _ _ q.0; few_ones = leb-true _ _ q.1 }

both_lawful : (k l : Matrix) → Lawful k → Lawful l → stack_fits k l ≡ true → Lawful (record { width = k.width; rows = k.rows ++ l.rows })
both_lawful k l p q f =
    let s = stack_parts k l f in
    let tall : length (k.rows ++ l.rows) ≡ height k + height l = length-append k.rows l.rows in
    let many : sum_by length (k.rows ++ l.rows) ≡ ones k + ones l = sum_by-append length k.rows l.rows in
    let P : ℕ → Type 0 = λ n. AllByRecursion (Row n) l.rows in
    record {
      some_column = p.some_column;
      few_columns = p.few_columns;
      some_row = omega (arith, tall, p.some_row);
      few_rows = omega (arith, tall, s.few_rows);
      few_ones = omega (arith, many, s.few_ones);
      each = All-append (Row k.width) k.rows l.rows p.each (subst P (sym s.level) q.each);
    }

pub stacked_lawful : (k l : Matrix) → Lawful k → Lawful l → Lawful (stacked k l)
stacked_lawful k l p q = cond_both (stack_fits k l) (record { width = k.width; rows = k.rows ++ l.rows }) k Lawful (both_lawful k l p q) (λ _. p)

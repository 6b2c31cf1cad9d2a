-- Records without a bad one make a lawful code. (Lemmas: nothing here is to be believed.)
--
--   went_on               how a search for the first bad place finds none
--   rank                  a record's number by row, then by column
--   Rising                records in range, of rising ranks from `low` on
--   rising                records without a bad one are so
--   rows_rise             a later record is of the same row or of a later one
--   Sizes, sizes          the bounds that `sizes_fit` tells
--   listed_rising, listed_ones, listed_lawful    of a listed code: its records rise, how many ones it has, and that it is lawful
use Rattle.std.specs.Prelude.{◌≡◌, ℕ, zero, suc, ◌+◌, ◌*◌, ◌<◌, ◌≤◌, Bool, true, false, cond, ◌&&◌, List, [], ◌∷◌, map, length, is_some, Some, None, filter, Option, ◌==◌, nat_eq, nat_le, nat_lt, refl}
use Rattle.std.proofs.Common.{◌∙◌, ⊎_elim, arith}
use Rattle.std.specs.List.{AllByRecursion}
use Rattle.std.proofs.ByRecursion.{All-weaker}
use Rattle.std.proofs.lemmas.Bool.{and_parts, or_cases, ltb-true, leb-true, eqb-true, true≢false}
use Rattle.codes.specs.declared.record.Record.{Record}
use Rattle.codes.specs.Matrix.{Apart, Row, Lawful, ones}
use Rattle.codes.specs.MatrixLaws.{not_member}
use Rattle.codes.specs.Records.{columns_of, listed, sizes_fit, follows, good, first_bad, row_of}
use Rattle.codes.specs.Tables.{table_ones, table_lawful}
use Rattle.codes.specs.Totals.{Σ, Σ_add, Σ_none, Σ_one, Σ_same}

abbrev pub rank : Record → ℕ
rank k = k.row * 512 + k.column

abbrev pub Rising : ℕ → ℕ → ℕ → List Record → Type 0
Rising m n low [] = Unit {0}
Rising m n low (k ∷ ks) = (k.row < m) × (k.column < n) × (low ≤ rank k) × Rising m n (rank k + 1) ks

-- the least rank that may come after the last record, whose column is below 512
abbrev next_rank : Option Record → ℕ
next_rank None = 0
next_rank (Some j) = rank j + 1

abbrev Narrow : Option Record → Type 0
Narrow None = Unit {0}
Narrow (Some j) = j.column < 512

follows_rank : (last : Option Record) (k : Record) → Narrow last → follows last k ≡ true → next_rank last ≤ rank k
follows_rank None k h f = omega arith
follows_rank (Some j) k h f =
    ⊎_elim
    (λ (l : nat_lt j.row k.row ≡ true). omega (arith, ltb-true _ _ l))
    (λ (s : (j.row == k.row && nat_lt j.column k.column) ≡ true).
    let p = and_parts (j.row == k.row) (nat_lt j.column k.column) s in omega (arith, eqb-true _ _ p.0, ltb-true _ _ p.1))
    (or_cases (nat_lt j.row k.row) (j.row == k.row && nat_lt j.column k.column) f)

-- a search for the first bad place that found none went on past a good one
pub went_on : (b : Bool) (i : ℕ) (o : Option ℕ) → is_some (cond b o (Some i)) ≡ false → (b ≡ true) × (is_some o ≡ false)
went_on true i o e = (refl, e)
went_on false i o e = absurd (true≢false e)

rising_from : (m n : ℕ) (last : Option Record) (i : ℕ) (rs : List Record) → n ≤ 512 → Narrow last → is_some (first_bad m n last i rs) ≡ false → Rising m n (next_rank last) rs
rising_from m n last i [] small h e = tt
rising_from m n last i (k ∷ ks) small h e =
    let w = went_on (good m n last k) i (first_bad m n (Some k) (i + 1) ks) e in
    let p = and_parts (nat_lt k.row m) (nat_lt k.column n && follows last k) w.0 in
    let q = and_parts (nat_lt k.column n) (follows last k) p.1 in
    let inside : k.column < n = ltb-true _ _ q.0 in
    (ltb-true _ _ p.0, inside, follows_rank last k h q.1, rising_from m n (Some k) (i + 1) ks small (omega arith) w.1)

pub rising : (m n : ℕ) (rs : List Record) → n ≤ 512 → is_some (first_bad m n None 0 rs) ≡ false → Rising m n 0 rs
rising m n rs small e = rising_from m n None 0 rs small tt e

-- every row is at least the first's
low_rows : (m n low r : ℕ) (rs : List Record) → n ≤ 512 → r * 512 ≤ low → Rising m n low rs → (i : ℕ) → i < length rs → r ≤ row_of rs i
low_rows m n low r [] small l h i u = absurd (omega arith)
low_rows m n low r (k ∷ ks) small l h zero u = omega arith
low_rows m n low r (k ∷ ks) small l h (suc i) u = low_rows m n (rank k + 1) r ks small (omega arith) h.3 i (omega arith)

pub rows_rise : (m n low : ℕ) (rs : List Record) → n ≤ 512 → Rising m n low rs → (i j : ℕ) → i ≤ j → j < length rs → row_of rs i ≤ row_of rs j
rows_rise m n low [] small h i j l u = absurd (omega arith)
rows_rise m n low (k ∷ ks) small h zero zero l u = omega arith
rows_rise m n low (k ∷ ks) small h zero (suc j) l u = low_rows m n (rank k + 1) k.row ks small (omega arith) h.3 j (omega arith)
rows_rise m n low (k ∷ ks) small h (suc i) zero l u = absurd (omega arith)
rows_rise m n low (k ∷ ks) small h (suc i) (suc j) l u = rows_rise m n (rank k + 1) ks small h.3 i j (omega arith) (omega arith)

-- the columns of row r, by whether the first record is one of them
by_test : (P : List ℕ → Type 0) (b : Bool) (k : Record) (ks : List Record) → (b ≡ true → P (k.column ∷ map (λ k. k.column) ks)) → P (map (λ k. k.column) ks) → P (map (λ k. k.column) (cond b (k ∷ ks) ks))
by_test P true k ks y n = y refl
by_test P false k ks y n = n

by_row : (P : List ℕ → Type 0) (k : Record) (ks : List Record) (r : ℕ) → (k.row ≡ r → P (k.column ∷ columns_of ks r)) → P (columns_of ks r) → P (columns_of (k ∷ ks) r)
by_row P k ks r y n = by_test P (k.row == r) k (filter (λ k. nat_eq k.row r) ks) (λ e. y (eqb-true _ _ e)) n

-- they are in range, and at least what `low` leaves
row_columns : (m n low r : ℕ) (rs : List Record) → Rising m n low rs → AllByRecursion (λ c. (c < n) × (low ≤ r * 512 + c)) (columns_of rs r)
row_columns m n low r [] h = tt
row_columns m n low r (k ∷ ks) h =
    let rest : AllByRecursion (λ c. (c < n) × (low ≤ r * 512 + c)) (columns_of ks r) =
    All-weaker (λ c. (c < n) × (rank k + 1 ≤ r * 512 + c)) (λ c. (c < n) × (low ≤ r * 512 + c)) (λ c p. (p.0, omega arith)) (columns_of ks r) (row_columns m n (rank k + 1) r ks h.3) in
    by_row (AllByRecursion (λ c. (c < n) × (low ≤ r * 512 + c))) k ks r (λ same. ((h.1, omega arith), rest)) rest

row_apart : (m n low r : ℕ) (rs : List Record) → Rising m n low rs → Apart (columns_of rs r)
row_apart m n low r [] h = tt
row_apart m n low r (k ∷ ks) h =
    let rest : Apart (columns_of ks r) = row_apart m n (rank k + 1) r ks h.3 in
    let above : k.row ≡ r → AllByRecursion (λ c. k.column < c) (columns_of ks r) =
    λ same. All-weaker (λ c. (c < n) × (rank k + 1 ≤ r * 512 + c)) (λ c. k.column < c) (λ c p. omega arith) (columns_of ks r) (row_columns m n (rank k + 1) r ks h.3) in
    by_row Apart k ks r (λ same. (not_member k.column (columns_of ks r) (above same), rest)) rest

row_lawful : (m n : ℕ) (rs : List Record) → Rising m n 0 rs → (r : ℕ) → Row n (columns_of rs r)
row_lawful m n rs h r = record {
  within = All-weaker (λ c. (c < n) × (0 ≤ r * 512 + c)) (λ c. c < n) (λ c p. p.0) (columns_of rs r) (row_columns m n 0 r rs h);
  apart = row_apart m n 0 r rs h;
}

test_length : (b : Bool) (k : Record) (ks : List Record) → length (map (λ k. k.column) (cond b (k ∷ ks) ks)) ≡ cond b 1 0 + length (map (λ k. k.column) ks)
test_length true k ks = omega arith
test_length false k ks = omega arith

row_length : (k : Record) (ks : List Record) (r : ℕ) → length (columns_of (k ∷ ks) r) ≡ cond (k.row == r) 1 0 + length (columns_of ks r)
row_length k ks r = test_length (k.row == r) k (filter (λ k. nat_eq k.row r) ks)

-- each record stands in one row
all_ones : (m n low : ℕ) (rs : List Record) → Rising m n low rs → Σ (λ r. length (columns_of rs r)) 0 m ≡ length rs
all_ones m n low [] h = Σ_none 0 m
all_ones m n low (k ∷ ks) h =
    Σ_same (λ r. length (columns_of (k ∷ ks) r)) (λ r. cond (k.row == r) 1 0 + length (columns_of ks r)) 0 m (λ r _ _. row_length k ks r)
    ∙ Σ_add (λ r. cond (k.row == r) 1 0) (λ r. length (columns_of ks r)) 0 m
    ∙ omega (arith, Σ_one k.row 0 m (omega arith) (omega (arith, h.0)), all_ones m n (rank k + 1) ks h.3)

pub record Sizes (m n : ℕ) : Type 0 where
  pub some_row : 1 ≤ m
  pub few_rows : m ≤ 256
  pub some_column : 1 ≤ n
  pub few_columns : n ≤ 512

pub sizes : (m n : ℕ) → sizes_fit m n ≡ true → Sizes m n
sizes m n s =
    let p = and_parts (nat_le 1 m && nat_le m 256) (nat_le 1 n && nat_le n 512) s in
    let q = and_parts (nat_le 1 m) (nat_le m 256) p.0 in
    let t = and_parts (nat_le 1 n) (nat_le n 512) p.1 in
    record { some_row = leb-true _ _ q.0; few_rows = leb-true _ _ q.1; some_column = leb-true _ _ t.0; few_columns = leb-true _ _ t.1 }

module _ (m n : ℕ) (rs : List Record) (s : sizes_fit m n ≡ true) (e : is_some (first_bad m n None 0 rs) ≡ false) where
  pub listed_rising : Rising m n 0 rs
  listed_rising = rising m n rs (sizes m n s).few_columns e

  pub listed_ones : ones (listed m n rs) ≡ length rs
  listed_ones = table_ones m n (columns_of rs) ∙ all_ones m n 0 rs listed_rising

  pub listed_lawful : length rs ≤ 4096 → Lawful (listed m n rs)
  listed_lawful few =
      let z = sizes m n s in
      table_lawful m n (columns_of rs) z.some_row z.few_rows z.some_column z.few_columns (omega (arith, listed_ones)) (row_lawful m n rs listed_rising)

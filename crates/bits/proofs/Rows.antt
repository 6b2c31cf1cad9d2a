-- Rows of eight words in one list: reading one, and what a write leaves of each.
use Rattle.std.proofs.Common.{◌≡◌, ℕ, zero, suc, ◌+◌, ◌-◌, ◌*◌, ◌/◌, ◌%◌, ◌<◌, ◌≤◌, ltb, ◌⊎◌, List, [], ◌++◌, length, get_or, take, drop, drop-drop, replicate, MatchOption, Some, None, Option, Bor, sym, refl, ap, ◌∙◌, inl, inr, ⊎_elim, arith}
use borrow.Rule.Slice.PartMut.{put_mid}
use lib.Lanes.{chunk, put_chunk}
use Rattle.std.specs.Simd.{first_chunks}
use Rattle.std.specs.Slice.{IsItemAt}
use Rattle.std.proofs.lemmas.List.{ext_get_or, length-replicate, take-replicate, drop-replicate}
use Rattle.std.proofs.lemmas.Simd.{length-chunk, get_or-chunk, length-put_chunk, put_chunk_is, get_or-put_chunk_below, get_or-put_chunk_at, get_or-put_chunk_above}
use Rattle.std.proofs.lemmas.Bool.{cases_lt, lt-ltb, le-ltb, cond-true, cond-false}
use Rattle.bits.specs.Sets.{bit, holds, row, put_row}

-- where the words hold row r whole, and where they do not
module _ (ws : List ℕ) (r : ℕ) where
  pub row_within : 8 * r + 8 ≤ length ws → row ws r ≡ chunk (8 * r) 8 ws
  row_within h = cond-true (ltb r (length ws / 8)) (chunk (8 * r) 8 ws) (replicate 8 0) (lt-ltb r (length ws / 8) (omega arith))

  pub row_past : length ws < 8 * r + 8 → row ws r ≡ replicate 8 0
  row_past h = cond-false (ltb r (length ws / 8)) (chunk (8 * r) 8 ws) (replicate 8 0) (le-ltb r (length ws / 8) (omega arith))

  pub put_row_within : (xs : List ℕ) → 8 * r + 8 ≤ length ws → put_row ws r xs ≡ put_chunk (8 * r) ws xs
  put_row_within xs h = cond-true (ltb r (length ws / 8)) (put_chunk (8 * r) ws xs) ws (lt-ltb r (length ws / 8) (omega arith))

  pub put_row_past : (xs : List ℕ) → length ws < 8 * r + 8 → put_row ws r xs ≡ ws
  put_row_past xs h = cond-false (ltb r (length ws / 8)) (put_chunk (8 * r) ws xs) ws (le-ltb r (length ws / 8) (omega arith))

  cases_row : (8 * r + 8 ≤ length ws) ⊎ (length ws < 8 * r + 8)
  cases_row = ⊎_elim inr inl (cases_lt (length ws) (8 * r + 8))

  pub length_row : length (row ws r) ≡ 8
  length_row = ⊎_elim (λ (h : 8 * r + 8 ≤ length ws). ap length (row_within h) ∙ length-chunk (8 * r) 8 ws h) (λ (h : length ws < 8 * r + 8). ap length (row_past h)) cases_row

  pub length_put_row : (xs : List ℕ) → length (put_row ws r xs) ≡ length ws
  length_put_row xs = ⊎_elim (λ (h : 8 * r + 8 ≤ length ws). ap length (put_row_within xs h) ∙ length-put_chunk (8 * r) ws xs) (λ (h : length ws < 8 * r + 8). ap length (put_row_past xs h)) cases_row

  -- word i of a row
  pub get_or_row : (i : ℕ) → i < 8 → 8 * r + 8 ≤ length ws → get_or (row ws r) i 0 ≡ get_or ws (8 * r + i) 0
  get_or_row i l h = ap (λ xs. get_or xs i 0) (row_within h) ∙ get_or-chunk (8 * r) 8 ws i 0 l

  -- a row's numbers among those of all the words
  pub holds_row : (c : ℕ) → c < 512 → 8 * r + 8 ≤ length ws → holds (row ws r) c ≡ holds ws (512 * r + c)
  holds_row c l h =
      let q : (512 * r + c) / 64 ≡ 8 * r + c / 64 = omega arith in
      let m : (512 * r + c) % 64 ≡ c % 64 = omega arith in
      ap (λ w. bit w (c % 64)) (get_or_row (c / 64) (omega arith) h) ∙ sym (rw (q, m))

-- the chunks of eight elements, as a list
pub chunk_at : {X : Type 0} (ws : List X) (n r : ℕ) → r < n → get_or (first_chunks 8 n ws) r [] ≡ chunk (8 * r) 8 ws
chunk_at ws zero r l = absurd (omega arith)
chunk_at ws (suc n) zero l = refl
chunk_at ws (suc n) (suc r) l =
    let e : 8 * suc r ≡ 8 + 8 * r = omega arith in
    chunk_at (drop 8 ws) n r (omega arith) ∙ ap (take 8) (drop-drop (8 * r) 8 ws) ∙ sym (ap (λ k. take 8 (drop k ws)) e)

pub row_found : (ws : List ℕ) (r : ℕ) (rows : List (List ℕ)) → rows ≡ first_chunks 8 (length ws / 8) ws → length rows ≡ length ws / 8
    → (o : Option (Bor (List ℕ))) → IsItemAt rows r o → MatchOption o (row ws r ≡ replicate 8 0) (λ line. line.now ≡ row ws r)
row_found ws r rows are many None h = row_past ws r (omega (arith, h.3, many))
row_found ws r rows are many (Some line) h =
    let l : r < length ws / 8 = omega (arith, h.3.0, many) in
    h.4 (omega arith) [] ∙ ap (λ xs. get_or xs r []) are ∙ chunk_at ws (length ws / 8) r l ∙ sym (row_within ws r (omega arith))

-- what writing row q leaves
module _ (ws xs : List ℕ) (q : ℕ) (eight : length xs ≡ 8) where
  pub row_put_same : 8 * q + 8 ≤ length ws → row (put_row ws q xs) q ≡ xs
  row_put_same h =
      ext_get_or 0 _ _ (length_row (put_row ws q xs) q ∙ sym eight) (λ i l.
      let e : i < 8 = omega (arith, length_row (put_row ws q xs) q) in
      get_or_row (put_row ws q xs) q i e (omega (arith, length_put_row ws q xs))
      ∙ ap (λ ys. get_or ys (8 * q + i) 0) (put_row_within ws q xs h)
      ∙ get_or-put_chunk_at (8 * q) ws xs i 0 (omega arith) (omega arith))

  other_word : (k : ℕ) → (k < 8 * q) ⊎ (8 * q + 8 ≤ k) → get_or (put_row ws q xs) k 0 ≡ get_or ws k 0
  other_word k h =
      ⊎_elim (λ (l : 8 * q + 8 ≤ length ws).
      ap (λ ys. get_or ys k 0) (put_row_within ws q xs l)
      ∙ ⊎_elim (λ (b : k < 8 * q). get_or-put_chunk_below (8 * q) ws xs k 0 b) (λ (b : 8 * q + 8 ≤ k). get_or-put_chunk_above (8 * q) ws xs k 0 (omega arith)) h)
      (λ (l : length ws < 8 * q + 8). ap (λ ys. get_or ys k 0) (put_row_past ws q xs l))
      (cases_row ws q)

  beside : (r i : ℕ) → (r ≡ q → ⊥) → i < 8 → (8 * r + i < 8 * q) ⊎ (8 * q + 8 ≤ 8 * r + i)
  beside r i n l = ⊎_elim (λ (b : r < q). inl (omega arith)) (λ (b : q ≤ r). inr (omega arith)) (cases_lt r q)

  pub row_put_other : (r : ℕ) → (r ≡ q → ⊥) → row (put_row ws q xs) r ≡ row ws r
  row_put_other r n =
      ⊎_elim (λ (h : 8 * r + 8 ≤ length ws).
      ext_get_or 0 _ _ (length_row (put_row ws q xs) r ∙ sym (length_row ws r)) (λ i l.
      let e : i < 8 = omega (arith, length_row (put_row ws q xs) r) in
      get_or_row (put_row ws q xs) r i e (omega (arith, length_put_row ws q xs))
      ∙ other_word (8 * r + i) (beside r i n e)
      ∙ sym (get_or_row ws r i e h)))
      (λ (h : length ws < 8 * r + 8). row_past (put_row ws q xs) r (omega (arith, length_put_row ws q xs)) ∙ sym (row_past ws r h))
      (cases_row ws r)

-- rows of words that are all 0
pub row_zeros : (n r : ℕ) → row (replicate n 0) r ≡ replicate 8 0
row_zeros n r =
    ⊎_elim (λ (h : 8 * r + 8 ≤ length (replicate n 0)).
    row_within (replicate n 0) r h ∙ ap (take 8) (drop-replicate (8 * r) n 0) ∙ take-replicate 8 (n - 8 * r) 0 (omega (arith, length-replicate {A = ℕ} n 0)))
    (λ (h : length (replicate n 0) < 8 * r + 8). row_past (replicate n 0) r h)
    (cases_row (replicate n 0) r)

-- a part written in place
pub put_mid_is : (a k : ℕ) (xs ys : List ℕ) → length ys ≡ k → a + k ≤ length xs → put_mid a k xs ys ≡ put_chunk a xs ys
put_mid_is a k xs ys e h = sym (put_chunk_is a xs ys (omega arith) ∙ ap (λ n. take a xs ++ (ys ++ drop n (drop a xs))) e)

-- A row added to the rows of a set one after another: those left are as they were.
use Rattle.std.proofs.Common.{◌≡◌, ℕ, ◌+◌, ◌*◌, ◌<◌, ◌≤◌, Bool, true, false, cond, ◌⊎◌, List, length, get_or, set, sym, refl, ap, ◌∙◌, inl, inr, arith, get_or-set_other, get_or-set_same}
use lib.Bits.{bit_xor}
use Rattle.std.proofs.lemmas.Simd.{length-zip2}
use Rattle.std.proofs.lemmas.Bool.{cases_eq, cond-true, cond-false}
use Rattle.bits.specs.Sets.{xors, row, put_row}
use Rattle.bits.proofs.Rows.{row_put_same, row_put_other, length_row}
use Rattle.method.specs.Sets.{has, count}
use Rattle.method.proofs.Marks.{has_below, clear_is}
use Rattle.method.proofs.Counts.{count_clear}
use Rattle.search.specs.Rows.{Added}

-- the numbers of a set that are no longer left
abbrev pub gone : List Bool → List Bool → ℕ → Bool
gone all left q = cond (has left q) false (has all q)

pub record Adding {S : Type 0} (sum : S → S → S) (all left : List Bool) (line : List ℕ) (side : S) (ws ws' : List ℕ) (ss ss' : List S) (done : ℕ) : Type 0 where
  pub rows : (q : ℕ) → row ws' q ≡ cond (gone all left q) (xors (row ws q) line) (row ws q)
  pub sides : (q : ℕ) (d : S) → get_or ss' q d ≡ cond (gone all left q) (sum (get_or ss q d) side) (get_or ss q d)
  pub part : (q : ℕ) → has left q ≡ true → has all q ≡ true
  pub counted : done + count left ≡ count all

module _ {S : Type 0} (sum : S → S → S) (all : List Bool) (line : List ℕ) (side : S) (ws : List ℕ) (ss : List S) where
  -- nothing done yet
  pub adding_none : Adding sum all all line side ws ws ss ss 0
  adding_none = record {
    rows = λ q. sym (cond-false (gone all all q) _ _ (none q (has all q) refl));
    sides = λ q d. sym (cond-false (gone all all q) _ _ (none q (has all q) refl));
    part = λ q h. h;
    counted = omega arith;
  }
    where
      none : (q : ℕ) (b : Bool) → has all q ≡ b → cond b false b ≡ false
      none q true e = refl
      none q false e = refl

  -- one more of those left
  module _ (left : List Bool) (ws' : List ℕ) (ss' : List S) (done q : ℕ) (now : Adding sum all left line side ws ws' ss ss' done)
      (here : has left q ≡ true) (eight : length line ≡ 8) (long : 8 * q + 8 ≤ length ws') (in' : q < length ss') (x : S) (x_is : (d : S) → x ≡ get_or ss' q d) where
    sum_line : List ℕ
    sum_line = xors (row ws' q) line

    went : gone all (set left q false) q ≡ true
    went = ap (λ b. cond b false (has all q)) (get_or-set_same left q false false (has_below left q here)) ∙ now.part q here

    stays : (d : ℕ) → (d ≡ q → ⊥) → gone all (set left q false) d ≡ gone all left d
    stays d ne = ap (λ b. cond b false (has all d)) (get_or-set_other left q d false false ne)

    still : gone all left q ≡ false
    still = ap (λ b. cond b false (has all q)) here

    row_here : row (put_row ws' q (xors (row ws' q) line)) q ≡ xors (row ws q) line
    row_here =
        row_put_same ws' (xors (row ws' q) line) q (length-zip2 bit_xor (row ws' q) line (length_row ws' q ∙ sym eight) ∙ length_row ws' q) long
        ∙ ap (λ r. xors r line) (now.rows q ∙ cond-false _ _ _ still)

    row_at : (d : ℕ) → (d ≡ q) ⊎ (d ≡ q → ⊥)
        → row (put_row ws' q (xors (row ws' q) line)) d ≡ cond (gone all (set left q false) d) (xors (row ws d) line) (row ws d)
    row_at d (inl e) = rw e (row_here ∙ sym (cond-true _ _ _ went))
    row_at d (inr ne) =
        row_put_other ws' (xors (row ws' q) line) q (length-zip2 bit_xor (row ws' q) line (length_row ws' q ∙ sym eight) ∙ length_row ws' q) d ne
        ∙ now.rows d ∙ ap (λ b. cond b (xors (row ws d) line) (row ws d)) (sym (stays d ne))

    side_at : (d : ℕ) (z : S) → (d ≡ q) ⊎ (d ≡ q → ⊥)
        → get_or (set ss' q (sum x side)) d z ≡ cond (gone all (set left q false) d) (sum (get_or ss d z) side) (get_or ss d z)
    side_at d z (inl e) =
        rw e (get_or-set_same ss' q (sum x side) z in' ∙ ap (λ y. sum y side) (x_is z ∙ now.sides q z ∙ cond-false _ _ _ still) ∙ sym (cond-true _ _ _ went))
    side_at d z (inr ne) =
        get_or-set_other ss' q d (sum x side) z ne ∙ now.sides d z ∙ ap (λ b. cond b (sum (get_or ss d z) side) (get_or ss d z)) (sym (stays d ne))

    pub adding_more : Adding sum all (set left q false) line side ws (put_row ws' q (xors (row ws' q) line)) ss (set ss' q (sum x side)) (done + 1)
    adding_more = record {
      rows = λ d. row_at d (cases_eq d q);
      sides = λ d z. side_at d z (cases_eq d q);
      part = λ d h. now.part d (clear_is left q d h).0;
      counted = omega (arith, now.counted, count_clear left q here);
    }

  -- none left
  pub adding_all : (left : List Bool) (ws' : List ℕ) (ss' : List S) (done : ℕ) → Adding sum all left line side ws ws' ss ss' done → ((q : ℕ) → has left q ≡ false)
      → (r : ℕ) → line ≡ row ws r → ((d : S) → side ≡ get_or ss r d) → Added sum all r ws ws' ss ss'
  adding_all left ws' ss' done now none r line-is side-is = record {
    rows = λ q. now.rows q ∙ ap (λ b. cond b (xors (row ws q) line) (row ws q)) (all_gone q) ∙ ap (λ l. cond (has all q) (xors (row ws q) l) (row ws q)) line-is;
    sides = λ q d. now.sides q d ∙ ap (λ b. cond b (sum (get_or ss q d) side) (get_or ss q d)) (all_gone q) ∙ ap (λ y. cond (has all q) (sum (get_or ss q d) y) (get_or ss q d)) (side-is d);
  }
    where
      all_gone : (q : ℕ) → gone all left q ≡ has all q
      all_gone q = ap (λ b. cond b false (has all q)) (none q)

pub moved : {S : Type 0} {sum : S → S → S} {all left left' : List Bool} {line : List ℕ} {side : S} {ws ws₁ ws₂ : List ℕ} {ss ss₁ ss₂ : List S} {done : ℕ}
    → left' ≡ left → ws₂ ≡ ws₁ → ss₂ ≡ ss₁ → Adding sum all left line side ws ws₁ ss ss₁ done → Adding sum all left' line side ws ws₂ ss ss₂ done
moved e f h a = rw (e, f, h) a

-- The rows kept for each column: how loading keeps them, and that those that hold an active column stay the same.
use Rattle.std.proofs.Common.{◌≡◌, ℕ, zero, suc, ◌+◌, ◌-◌, ◌*◌, ◌/◌, ◌%◌, ◌<◌, ◌≤◌, Bool, true, false, ◌&&◌, ◌||◌, eqb, ltb, ◌⊎◌, List, [], ◌∷◌, map, length, get_or, set, sym, refl, ap, ◌∙◌, inl, inr, arith, get_or-set_other, below_more}
use Rattle.std.specs.List.{range_with_len}
use Rattle.std.proofs.lemmas.List.FromFn.{get_or-map-range_with_len, length-map-range_with_len}
use Rattle.std.proofs.lemmas.List.{ext_get_or, get_or-drop}
use Rattle.std.proofs.lemmas.Bool.{cases_lt, cases_eq, eq-eqb, ne_eqb, lt-ltb, le-ltb, and_left}
use Rattle.bits.specs.Sets.{bit, holds, Put, put_row}
use Rattle.bits.proofs.Word.{bit_zero}
use Rattle.bits.proofs.Rows.{row_put_same, row_put_other}
use Rattle.symbols.specs.Kinds.{Kind}
use Rattle.method.specs.Sets.{has}
use Rattle.method.specs.Method.{Row, row_holds, row_of, use_row}
use Rattle.method.proofs.Marks.{has_meet, clear_is}
use Rattle.policies.proofs.Marks.{get_or_zeros}
use Rattle.search.specs.declared.uses.Uses.{Uses}
use Rattle.search.specs.Rows.{holding, keeps, Noted, KeptBelow, Kept}
use Rattle.search.specs.Steps.{Lone}
use Rattle.search.specs.View.{lines}
use Rattle.search.proofs.Lines.{holds_at}
use Rattle.search.proofs.Tallies.{part, part_lone}

and_on : (a b : Bool) → b ≡ true → (a && b) ≡ a
and_on true b e = e
and_on false b e = refl

or_off : (a b : Bool) → b ≡ false → (a || b) ≡ a
or_off true b e = refl
or_off false b e = e

-- the four words of a column
module _ (ks : List ℕ) (c a b e f : ℕ) (a_is : a ≡ get_or ks (4 * c) 0) (b_is : b ≡ get_or ks (4 * c + 1) 0) (e_is : e ≡ get_or ks (4 * c + 2) 0) (f_is : f ≡ get_or ks (4 * c + 3) 0) where
  abbrev four : List ℕ
  four = a ∷ b ∷ e ∷ f ∷ 0 ∷ 0 ∷ 0 ∷ 0 ∷ []

  word_low : (k : ℕ) → k < 4 → get_or four k 0 ≡ get_or ks (4 * c + k) 0
  word_low zero l = a_is ∙ ap (λ j. get_or ks j 0) (omega arith)
  word_low (suc zero) l = b_is
  word_low (suc (suc zero)) l = e_is
  word_low (suc (suc (suc zero))) l = f_is
  word_low (suc (suc (suc (suc k)))) l = absurd (omega arith)

  word_high : (k : ℕ) → 4 ≤ k → get_or four k 0 ≡ 0
  word_high k l =
      let at : 4 + (k - 4) ≡ k = omega arith in
      ap (λ j. get_or four j 0) (sym at) ∙ sym (get_or-drop 4 four (k - 4) 0) ∙ get_or_zeros 4 (k - 4)

  pub four_holds : (d : ℕ) → holds four d ≡ (ltb d 256 && keeps ks c d)
  four_holds d = go (cases_lt d 256)
    where
      go : (d < 256) ⊎ (256 ≤ d) → holds four d ≡ (ltb d 256 && keeps ks c d)
      go (inl l) =
          let q : 4 * c + d / 64 ≡ (256 * c + d) / 64 = omega arith in
          let r : d % 64 ≡ (256 * c + d) % 64 = omega arith in
          ap (λ w. bit w (d % 64)) (word_low (d / 64) (omega arith) ∙ ap (λ j. get_or ks j 0) q) ∙ ap (bit (get_or ks ((256 * c + d) / 64) 0)) r
          ∙ sym (ap (λ x. x && keeps ks c d) (lt-ltb d 256 l))
      go (inr l) = ap (λ w. bit w (d % 64)) (word_high (d / 64) (omega arith)) ∙ bit_zero (d % 64) ∙ sym (and_left _ (keeps ks c d) (le-ltb d 256 l))

-- these words as a set of the rows below m
module _ (ks ws : List ℕ) (c m : ℕ) (words : (d : ℕ) → holds ws d ≡ (ltb d 256 && keeps ks c d)) (few : m ≤ 256) where
  pub four_shown : map (holds ws) (range_with_len 0 m) ≡ map (keeps ks c) (range_with_len 0 m)
  four_shown = ext_get_or false _ _ (length-map-range_with_len (holds ws) 0 m ∙ sym (length-map-range_with_len (keeps ks c) 0 m)) (λ q h.
      let l : q < m = omega (arith, length-map-range_with_len (holds ws) 0 m) in
      get_or-map-range_with_len (holds ws) 0 m q q false l (omega arith) ∙ words q ∙ ap (λ x. x && keeps ks c q) (lt-ltb q 256 (omega arith))
      ∙ sym (get_or-map-range_with_len (keeps ks c) 0 m q q false l (omega arith)))

-- the rows kept for an active column are those that hold it
pub kept_held : {ks ws : List ℕ} {m : ℕ} {active : List Bool} → Kept ks ws m active → (c : ℕ) → has active c ≡ true → map (keeps ks c) (range_with_len 0 m) ≡ map (holding ws c) (range_with_len 0 m)
kept_held {ks} {ws} {m} k c h = ext_get_or false _ _ (length-map-range_with_len (keeps ks c) 0 m ∙ sym (length-map-range_with_len (holding ws c) 0 m)) (λ q s.
    let l : q < m = omega (arith, length-map-range_with_len (keeps ks c) 0 m) in
    get_or-map-range_with_len (keeps ks c) 0 m q q false l (omega arith) ∙ k.each c q h l ∙ sym (get_or-map-range_with_len (holding ws c) 0 m q q false l (omega arith)))

-- a column leaves the active ones, and the rows of the others stay the same
pub kept_next : {ks ws ws' : List ℕ} {m m' : ℕ} {active active' : List Bool} (c : ℕ) → Kept ks ws m active → m' ≡ m → active' ≡ set active c false
    → ((d q : ℕ) → has (set active c false) d ≡ true → q < m → holding ws' d q ≡ holding ws d q) → Kept ks ws' m' active'
kept_next {ks} {ws} {ws'} {m} {m'} {active} {active'} c k e f same = rw (e, f) (record {
  each = λ d q h l. k.each d q (clear_is active c d h).0 l ∙ sym (same d q h l);
  none = k.none;
})

-- row r, whose one active column is c, is added to the rows that hold c
module _ {S : Type 0} (K : Kind S) (n n' : ℕ) (ws ws' : List ℕ) (ss ss' : List S) (u u' : Uses) (active : List Bool) (r c : ℕ)
    (is : Lone K active (lines K n ws ss u) r c) (rows_are : lines K n' ws' ss' u' ≡ use_row K r c (lines K n ws ss u))
    (wide : n' ≡ n) (same : length ss' ≡ length ss) (low : (d : ℕ) → has active d ≡ true → d < n) where
  pub holding_stays : (d q : ℕ) → has (set active c false) d ≡ true → q < length ss → holding ws' d q ≡ holding ws d q
  holding_stays d q h l =
      let rows : List (Row S) = lines K n ws ss u in
      let was = clear_is active c d h in
      let in' : d < n = low d was.0 in
      sym (holds_at K n' ws' ss' u' q d (omega (arith, same)) (omega (arith, wide)))
      ∙ ap (λ rs. row_holds d (row_of K rs q)) rows_are
      ∙ sym (has_meet (row_of K (use_row K r c rows) q).cols (set active c false) d ∙ and_on _ _ h)
      ∙ part_lone K rows active r c is q d
      ∙ get_or-set_other (part K rows active q) c d false false was.1
      ∙ has_meet (row_of K rows q).cols active d ∙ and_on _ _ was.0
      ∙ holds_at K n ws ss u q d l in'

-- a row is noted column by column
module _ (ks ks' : List ℕ) (r : ℕ) (line : List ℕ) (few : r < 256) where
  pub noted_none : ((c : ℕ) → keeps ks c r ≡ false) → ((d : ℕ) → holds line d ≡ false) → Noted ks ks r line
  noted_none clear none = record { here = λ c. clear c ∙ sym (none c); others = λ c q l ne. refl }

  pub noted_more : Noted ks ks' r line → (d : ℕ) → d < 512 → length ks' ≡ 2048 → length line ≡ 8 → (line' ks'' : List ℕ) → Put d line line' → Put (256 * d + r) ks' ks'' → Noted ks ks'' r line'
  noted_more now d narrow long eight line' ks'' put note = record {
    here = λ c. note.within (omega arith) (256 * c + r) ∙ here c (cases_eq c d) ∙ sym (put.within (omega arith) c);
    others = λ c q l ne. note.within (omega arith) (256 * c + q) ∙ or_off _ _ (ne_eqb (256 * c + q) (256 * d + r) (λ e. ne (omega arith))) ∙ now.others c q l ne;
  }
    where
      here : (c : ℕ) → (c ≡ d) ⊎ (c ≡ d → ⊥) → (keeps ks' c r || eqb (256 * c + r) (256 * d + r)) ≡ (holds line c || eqb c d)
      here c (inl e) = rw e (ap (λ b. b || eqb (256 * d + r) (256 * d + r)) (now.here d) ∙ ap (λ b. holds line d || b) (eq-eqb (256 * d + r) (256 * d + r) refl ∙ sym (eq-eqb d d refl)))
      here c (inr ne) =
          ap (λ b. b || eqb (256 * c + r) (256 * d + r)) (now.here c)
          ∙ ap (λ b. holds line c || b) (ne_eqb (256 * c + r) (256 * d + r) (λ e. ne (omega arith)) ∙ sym (ne_eqb c d ne))

pub noted_moved : {ks ks' ks'' : List ℕ} {r : ℕ} {line line' : List ℕ} → ks'' ≡ ks' → line' ≡ line → Noted ks ks' r line → Noted ks ks'' r line'
noted_moved e f h = rw (e, f) h

-- row by row
pub kept_none : (ks ws : List ℕ) → ((k : ℕ) → holds ks k ≡ false) → KeptBelow ks ws 0
kept_none ks ws clear = record { each = λ c q h. absurd (omega arith); none = λ c q l h. clear (256 * c + q) }

pub kept_more : (ks ks' ws ws' : List ℕ) (i : ℕ) (line : List ℕ) → KeptBelow ks ws i → Noted ks ks' i line → length line ≡ 8 → 8 * i + 8 ≤ length ws → i < 256
    → ws' ≡ put_row ws i line → KeptBelow ks' ws' (i + 1)
kept_more ks ks' ws ws' i line own note eight long few e = rw e (record {
  each = λ c. below_more (λ q. keeps ks' c q ≡ holding (put_row ws i line) c q) i
      (λ q l. note.others c q (omega arith) (omega arith) ∙ own.each c q l ∙ ap (λ xs. holds xs c) (sym (row_put_other ws line i eight q (omega arith))))
      (note.here c ∙ ap (λ xs. holds xs c) (sym (row_put_same ws line i eight long)));
  none = λ c q l h. note.others c q h (omega arith) ∙ own.none c q (omega arith) h;
})

pub kept_moved : {ks ks' ws ws' : List ℕ} {i i' : ℕ} → ks' ≡ ks → ws' ≡ ws → i' ≡ i → KeptBelow ks ws i → KeptBelow ks' ws' i'
kept_moved a b e h = rw (a, b, e) h

pub kept_whole : {ks ws : List ℕ} {m : ℕ} (active : List Bool) → KeptBelow ks ws m → Kept ks ws m active
kept_whole active own = record { each = λ c q h l. own.each c q l; none = own.none }

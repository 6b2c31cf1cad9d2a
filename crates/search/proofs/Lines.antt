-- The rows that words and right sides stand for.
use Rattle.std.proofs.Common.{◌≡◌, ℕ, zero, suc, ◌+◌, ◌<◌, Bool, true, false, not, ◌&&◌, ◌⊎◌, List, [], ◌∷◌, map, length, get_or, set, Some, Option, sym, refl, ap, ◌∙◌, ap₂, inl, inr, arith, length-set, get_or-set_other, get_or-set_same}
use mathlib.Core.Bool.{and_comm}
use lib.ListN.{length-map}
use Rattle.std.specs.List.{range_with_len}
use Rattle.std.proofs.lemmas.List.FromFn.{get_or-map-range_with_len, length-map-range_with_len}
use Rattle.std.proofs.lemmas.List.{ext_get_or, get_or-map, map-set}
use Rattle.std.proofs.lemmas.Bool.{cases_eq, cond-true, cond-false}
use Rattle.bits.specs.Sets.{holds, differ, xors, row}
use Rattle.bits.proofs.Held.{holds_xors}
use Rattle.bits.proofs.Rows.{length_row}
use Rattle.symbols.specs.Kinds.{Kind}
use Rattle.method.specs.Sets.{has, differs, sym_diff, meet, count, lowest, here_or}
use Rattle.method.specs.Method.{Row, is_none, unused, row_holds, taken_for, holder, clash, row_of, blank, added_if, use_row, others, spend}
use Rattle.method.proofs.Rows.{use_same, use_other}
use Rattle.policies.specs.declared.columns.Columns.{Columns}
use Rattle.policies.specs.Shown.{marks_of, shown}
use Rattle.policies.proofs.Marks.{marks_at, length_shown}
use Rattle.search.specs.declared.uses.Uses.{Uses}
use Rattle.search.specs.declared.elimination.Elimination.{Elimination}
use Rattle.search.specs.Rows.{holding, Added}
use Rattle.search.specs.View.{used_if, use_of, line, lines, rows_of, bare}

differ_is : (a b : Bool) → differ a b ≡ differs a b
differ_is true b = refl
differ_is false b = refl

map_diff : (f g h : ℕ → Bool) → ((x : ℕ) → f x ≡ differs (g x) (h x)) → (xs : List ℕ) → map f xs ≡ sym_diff (map g xs) (map h xs)
map_diff f g h e [] = refl
map_diff f g h e (x ∷ xs) = ap₂ ◌∷◌ (e x) (map_diff f g h e xs)

-- the sum of two rows, as marks
pub marks_xors : (n : ℕ) (xs ys : List ℕ) → length xs ≡ length ys → marks_of n (xors xs ys) ≡ sym_diff (marks_of n xs) (marks_of n ys)
marks_xors n xs ys same =
    map_diff (holds (xors xs ys)) (holds xs) (holds ys) (λ c. holds_xors xs ys same c ∙ differ_is (holds xs c) (holds ys c)) (range_with_len 0 n)

-- the lowest place of a list of tests
pub lowest_map : {A : Type 0} (t : A → Bool) (xs : List A) → lowest (λ b. b) (map t xs) ≡ lowest t xs
lowest_map t [] = refl
lowest_map t (x ∷ xs) = ap (here_or (t x)) (lowest_map t xs)

-- a mark taken out
cleared : (s : List Bool) (c : ℕ) → has (set s c false) c ≡ false
cleared [] c = refl
cleared (b ∷ s) zero = refl
cleared (b ∷ s) (suc c) = cleared s c

unused_if : (b : Bool) (c : ℕ) → is_none (used_if b c) ≡ b
unused_if true c = refl
unused_if false c = refl

module _ {S : Type 0} (K : Kind S) (n : ℕ) (ws : List ℕ) (ss : List S) (u : Uses) where
  pub length_lines : length (lines K n ws ss u) ≡ length ss
  length_lines = length-map-range_with_len (line K n ws ss u) 0 (length ss)

  pub line_at : (q : ℕ) → q < length ss → row_of K (lines K n ws ss u) q ≡ line K n ws ss u q
  line_at q l = get_or-map-range_with_len (line K n ws ss u) 0 (length ss) q q (blank K) l (omega arith)

  pub holds_at : (q c : ℕ) → q < length ss → c < n → row_holds c (row_of K (lines K n ws ss u) q) ≡ holding ws c q
  holds_at q c l h = ap (row_holds c) (line_at q l) ∙ marks_at n (row ws q) c false h

  pub unused_at : (q : ℕ) → q < length ss → unused (row_of K (lines K n ws ss u) q) ≡ has (shown u.unused) q
  unused_at q l = ap unused (line_at q l) ∙ unused_if (has (shown u.unused) q) (get_or u.columns q 0)

  -- the rows that hold c
  pub map_holds : (c : ℕ) → c < n → map (row_holds c) (lines K n ws ss u) ≡ map (holding ws c) (range_with_len 0 (length ss))
  map_holds c h = ext_get_or false _ _ (long ∙ sym (length-map-range_with_len (holding ws c) 0 (length ss))) (λ q l. place q (omega (arith, long)))
    where
      long : length (map (row_holds c) (lines K n ws ss u)) ≡ length ss
      long = length-map (lines K n ws ss u) (row_holds c) ∙ length_lines

      place : (q : ℕ) → q < length ss → has (map (row_holds c) (lines K n ws ss u)) q ≡ has (map (holding ws c) (range_with_len 0 (length ss))) q
      place q l =
          get_or-map (row_holds c) (lines K n ws ss u) q (blank K) false (omega (arith, length_lines)) ∙ holds_at q c l h
          ∙ sym (get_or-map-range_with_len (holding ws c) 0 (length ss) q q false l (omega arith))

  pub held_at : (held : List Bool) (c : ℕ) → c < n → held ≡ map (holding ws c) (range_with_len 0 (length ss))
      → (q : ℕ) → q < length ss → has held q ≡ row_holds c (row_of K (lines K n ws ss u) q)
  held_at held c h e q l =
      ap (λ s. has s q) e ∙ get_or-map-range_with_len (holding ws c) 0 (length ss) q q false l (omega arith) ∙ sym (holds_at q c l h)

  -- the rows that are not used
  pub map_unused : u.unused.width ≡ length ss → map unused (lines K n ws ss u) ≡ shown u.unused
  map_unused e = ext_get_or false _ _ (long ∙ sym (length_shown u.unused ∙ e)) (λ q l. place q (omega (arith, long)))
    where
      long : length (map unused (lines K n ws ss u)) ≡ length ss
      long = length-map (lines K n ws ss u) unused ∙ length_lines

      place : (q : ℕ) → q < length ss → has (map unused (lines K n ws ss u)) q ≡ has (shown u.unused) q
      place q l = get_or-map unused (lines K n ws ss u) q (blank K) false (omega (arith, length_lines)) ∙ unused_at q l

-- an unused row with a right side that is not zero
pub clash_at : {S : Type 0} (K : Kind S) (n : ℕ) (ws : List ℕ) (ss : List S) (u : Uses) (q : ℕ) → q < length ss
    → clash K (row_of K (lines K n ws ss u) q) ≡ (has (shown u.unused) q && not (K.is_zero (get_or ss q K.zero)))
clash_at K n ws ss u q l =
    ap₂ ◌&&◌ (unused_at K n ws ss u q l) (ap (λ (x : Row _). not (K.is_zero x.right)) (line_at K n ws ss u q l))

pub use_length : {S : Type 0} (K : Kind S) (rows : List (Row S)) (r c : ℕ) → length (use_row K r c rows) ≡ length rows
use_length {S} K rows r c =
    let f : Row S → Row S = λ q. added_if K (row_holds c q) (row_of K rows r) q in
    length-set (map f rows) r (taken_for c (row_of K rows r)) ∙ length-map rows f

-- a set that shows a test of each number below m
pub held_width : (s : Columns) (t : ℕ → Bool) (m : ℕ) → shown s ≡ map t (range_with_len 0 m) → s.width ≡ m
held_width s t m e = sym (length_shown s) ∙ ap length e ∙ length-map-range_with_len t 0 m

-- row r is added to the other rows that hold c, and used for c
module _ {S : Type 0} (K : Kind S) (n r c : ℕ) (ws ws' : List ℕ) (ss ss' : List S) (u u' : Uses) (held : List Bool)
    (in_r : r < length ss) (in_c : c < n) (same : length ss' ≡ length ss)
    (held_is : held ≡ map (holding ws c) (range_with_len 0 (length ss)))
    (sums : Added K.sum (set held r false) r ws ws' ss ss')
    (unused_is : shown u'.unused ≡ set (shown u.unused) r false) (columns_is : u'.columns ≡ set u.columns r c)
    (in_columns : r < length u.columns) where
  rows : List (Row S)
  rows = lines K n ws ss u

  length_held : length held ≡ length ss
  length_held = ap length held_is ∙ length-map-range_with_len (holding ws c) 0 (length ss)

  own_held : has (set held r false) r ≡ false
  own_held = get_or-set_same held r false false (omega (arith, length_held))

  other_held : (q : ℕ) → q < length ss → (q ≡ r → ⊥) → has (set held r false) q ≡ row_holds c (row_of K (lines K n ws ss u) q)
  other_held q l ne = get_or-set_other held r q false false ne ∙ held_at K n ws ss u held c in_c held_is q l

  own_use : use_of u' r ≡ Some c
  own_use =
      ap₂ used_if (ap (λ s. has s r) unused_is ∙ cleared (shown u.unused) r) (ap (λ xs. get_or xs r 0) columns_is ∙ get_or-set_same u.columns r c 0 in_columns)

  other_use : (q : ℕ) → (q ≡ r → ⊥) → use_of u' q ≡ use_of u q
  other_use q ne =
      ap₂ used_if (ap (λ s. has s q) unused_is ∙ get_or-set_other (shown u.unused) r q false false ne)
      (ap (λ xs. get_or xs q 0) columns_is ∙ get_or-set_other u.columns r q c 0 ne)

  own_line : line K n ws' ss' u' r ≡ taken_for c (line K n ws ss u r)
  own_line =
      let a = sums.rows r ∙ cond-false _ _ _ own_held in
      let b = sums.sides r K.zero ∙ cond-false _ _ _ own_held in
      λ i. record { cols = marks_of n (a i); right = b i; used = own_use i }

  other_line : (q : ℕ) → q < length ss → (q ≡ r → ⊥) → (b : Bool) → row_holds c (row_of K (lines K n ws ss u) q) ≡ b
      → line K n ws' ss' u' q ≡ added_if K b (line K n ws ss u r) (line K n ws ss u q)
  other_line q l ne true e =
      let h = other_held q l ne ∙ e in
      let a = ap (marks_of n) (sums.rows q ∙ cond-true _ _ _ h) ∙ marks_xors n (row ws q) (row ws r) (length_row ws q ∙ sym (length_row ws r)) in
      let b = sums.sides q K.zero ∙ cond-true _ _ _ h in
      λ i. record { cols = a i; right = b i; used = other_use q ne i }
  other_line q l ne false e =
      let h = other_held q l ne ∙ e in
      let a = sums.rows q ∙ cond-false _ _ _ h in
      let b = sums.sides q K.zero ∙ cond-false _ _ _ h in
      λ i. record { cols = marks_of n (a i); right = b i; used = other_use q ne i }

  place : (q : ℕ) → q < length ss → (q ≡ r) ⊎ (q ≡ r → ⊥) → line K n ws' ss' u' q ≡ row_of K (use_row K r c (lines K n ws ss u)) q
  place q l (inl e) =
      ap (line K n ws' ss' u') e ∙ own_line ∙ ap (taken_for c) (sym (line_at K n ws ss u r in_r))
      ∙ sym (ap (row_of K (use_row K r c (lines K n ws ss u))) e ∙ use_same K (lines K n ws ss u) r c (omega (arith, length_lines K n ws ss u)))
  place q l (inr ne) =
      let rs = lines K n ws ss u in
      other_line q l ne (row_holds c (row_of K rs q)) refl
      ∙ ap (λ x. added_if K (row_holds c (row_of K rs q)) x (line K n ws ss u q)) (sym (line_at K n ws ss u r in_r))
      ∙ ap (λ x. added_if K (row_holds c (row_of K rs q)) (row_of K rs r) x) (sym (line_at K n ws ss u q l))
      ∙ sym (use_other K rs r c q ne)

  pub lines_used : lines K n ws' ss' u' ≡ use_row K r c (lines K n ws ss u)
  lines_used =
      let long = length_lines K n ws' ss' u' in
      ext_get_or (blank K) _ _ (long ∙ same ∙ sym (use_length K (lines K n ws ss u) r c ∙ length_lines K n ws ss u)) (λ q h. line_at K n ws' ss' u' q (omega arith) ∙ place q (omega arith) (cases_eq q r))

  pub others_added : count (set held r false) ≡ others K r c (lines K n ws ss u)
  others_added = ap count (ap (λ s. set s r false) (held_is ∙ sym (map_holds K n ws ss u c in_c)) ∙ sym (map-set (row_holds c) (lines K n ws ss u) r (blank K)))

-- the widths of sets that show as many marks
pub same_width : (s s' : Columns) (c : ℕ) (b : Bool) → shown s' ≡ set (shown s) c b → s'.width ≡ s.width
same_width s s' c b e = sym (length_shown s') ∙ ap length e ∙ length-set (shown s) c b ∙ length_shown s

-- the rows where a column leaves the active ones
pub lines_wide : {S : Type 0} (K : Kind S) (e : Elimination S) (active : Columns) (c : ℕ) → shown active ≡ set (shown e.active) c false
    → lines K active.width e.words.now e.sides.now e.uses ≡ rows_of K e
lines_wide K e active c h = ap (λ m. lines K m e.words.now e.sides.now e.uses) (same_width e.active active c false h)

-- the width of a set of rows that hold a column, without one of them
pub others_width : (held rest : Columns) (r : ℕ) (t : ℕ → Bool) (m : ℕ) → shown held ≡ map t (range_with_len 0 m) → shown rest ≡ set (shown held) r false → rest.width ≡ m
others_width held rest r t m e h = same_width held rest r false h ∙ held_width held t m e

-- the same of a whole state: what the rows, the active columns and the uses become
pub spent : {S : Type 0} (K : Kind S) (r c : ℕ) (e : Elimination S) (ws' : List ℕ) (ss' : List S) (active : Columns) (uses : Uses) (k : ℕ) (held : List Bool)
    → r < length e.sides.now → c < e.active.width → length ss' ≡ length e.sides.now → held ≡ map (holding e.words.now c) (range_with_len 0 (length e.sides.now))
    → Added K.sum (set held r false) r e.words.now ws' e.sides.now ss'
    → shown active ≡ set (shown e.active) c false
    → shown uses.unused ≡ set (shown e.uses.unused) r false → uses.columns ≡ set e.uses.columns r c
    → k ≡ count (set held r false)
    → record { rows = lines K active.width ws' ss' uses; active = shown active; pivots = e.pivots.items; free = e.free.items; additions = e.additions + k; policy = tt } ≡ spend K r c (bare K e)
spent K r c e ws' ss' active uses k held in_r in_c same held_is sums act unu col num =
    let n = e.active.width in
    let ws = e.words.now in
    let ss = e.sides.now in
    let in_columns : r < length e.uses.columns = omega (arith, e.uses.room, e.few) in
    let used = lines_used K n r c ws ws' ss ss' e.uses uses held in_r in_c same held_is sums unu col in_columns in
    let rows = ap (λ m. lines K m ws' ss' uses) (same_width e.active active c false act) ∙ used in
    let adds = ap (λ k. e.additions + k) (num ∙ others_added K n r c ws ws' ss ss' e.uses uses held in_r in_c same held_is sums unu col in_columns) in
    λ i. record { rows = rows i; active = act i; pivots = e.pivots.items; free = e.free.items; additions = adds i; policy = tt }

-- the active columns of row q, in its words
pub part_at : {S : Type 0} (K : Kind S) (e : Elimination S) (q : ℕ) → q < length (rows_of K e)
    → meet (marks_of e.active.width (row e.words.now q)) (shown e.active) ≡ meet (row_of K (rows_of K e) q).cols (shown e.active)
part_at K e q l =
    let n = e.active.width in
    let ws = e.words.now in
    let ss = e.sides.now in
    ap (λ (x : Row _). meet x.cols (shown e.active)) (sym (line_at K n ws ss e.uses q (omega (arith, length_lines K n ws ss e.uses))))

-- the lowest unused row that holds c
meet_map : {S : Type 0} (c : ℕ) (rows : List (Row S)) → map (holder c) rows ≡ meet (map (row_holds c) rows) (map unused rows)
meet_map c [] = refl
meet_map c (q ∷ rows) = ap₂ ◌∷◌ (and_comm (unused q) (row_holds c q)) (meet_map c rows)

pub lowest_holder : {S : Type 0} (K : Kind S) (e : Elimination S) (c : ℕ) (held : List Bool) → c < e.active.width
    → held ≡ map (holding e.words.now c) (range_with_len 0 (length e.sides.now)) → (o : Option ℕ) → o ≡ lowest (λ b. b) (meet held (shown e.uses.unused))
    → lowest (holder c) (rows_of K e) ≡ o
lowest_holder K e c held in_c held_is o h =
    let n = e.active.width in
    let ws = e.words.now in
    let ss = e.sides.now in
    sym (lowest_map (holder c) (rows_of K e))
    ∙ ap (lowest (λ b. b)) (meet_map c (rows_of K e) ∙ ap₂ meet (map_holds K n ws ss e.uses c in_c ∙ sym held_is) (map_unused K n ws ss e.uses e.high)) ∙ sym h

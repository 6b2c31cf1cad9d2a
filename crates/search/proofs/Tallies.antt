-- The tally of the rows, where a column leaves the active ones.
use Rattle.std.proofs.Common.{◌≡◌, ℕ, zero, suc, ◌<◌, ◌≤◌, Bool, true, false, ◌&&◌, eqb, ◌⊎◌, List, [], ◌∷◌, map, length, get_or, set, Some, None, Option, sym, refl, ap, ◌∙◌, subst, ap₂, inl, inr, arith, get_or-set_other}
use mathlib.Core.Bool.{and-false}
use lib.ListN.{length-map}
use Rattle.std.specs.List.{range_with_len}
use Rattle.std.proofs.lemmas.List.{ext_get_or, get_or-map}
use Rattle.std.proofs.lemmas.Bool.{cases_eq, cond-true, cond-false, and_parts, and_from, and_right, both_ways, eqb-true}
use Rattle.symbols.specs.Kinds.{Kind}
use Rattle.method.specs.Sets.{has, differs, sym_diff, meet, bump, count, lowest, or_else}
use Rattle.method.specs.Method.{Row, unused, ready, row_holds, row_of, blank, added_if, use_row}
use Rattle.method.proofs.Marks.{has_meet, has_sym_diff, differs_false, lowest_some, lowest_none}
use Rattle.method.proofs.Counts.{count_clear, none_count, only_one, lowest_in}
use Rattle.method.proofs.Rows.{use_same, use_other}
use Rattle.policies.specs.Shown.{shown}
use Rattle.policies.specs.declared.columns.Columns.{Columns}
use Rattle.policies.proofs.Marks.{length_shown, shown_below}
use Rattle.search.specs.declared.elimination.Elimination.{Elimination}
use Rattle.search.specs.Rows.{holding}
use Rattle.search.specs.View.{rows_of}
use Rattle.search.specs.declared.tally.Tally.{Tally}
use Rattle.search.specs.Steps.{Tallied, Going, Lowered, Lone}
use Rattle.search.proofs.Lines.{lowest_map, use_length, length_lines, held_width, held_at}

-- sets with the same numbers count the same
pub count_same : (s t : List Bool) → ((c : ℕ) → has s c ≡ has t c) → count s ≡ count t
count_same [] t h = sym (none_count t (λ c. sym (h c)))
count_same (a ∷ s) [] h = none_count (a ∷ s) h
count_same (a ∷ s) (b ∷ t) h = ap₂ bump (h 0) (count_same s t (λ c. h (suc c)))

-- a number taken out of one of two sets
pub meet_clear : (s t : List Bool) (c : ℕ) → meet s (set t c false) ≡ set (meet s t) c false
meet_clear [] t c = refl
meet_clear (a ∷ s) [] c = refl
meet_clear (a ∷ s) (b ∷ t) zero = ap (λ x. x ∷ meet s t) (and-false a)
meet_clear (a ∷ s) (b ∷ t) (suc c) = ap (λ x. (a && b) ∷ x) (meet_clear s t c)

-- a number that is not in a set, taken out
clear_absent : (s : List Bool) (c : ℕ) → has s c ≡ false → (d : ℕ) → has (set s c false) d ≡ has s d
clear_absent [] c h d = refl
clear_absent (b ∷ s) zero h zero = sym h
clear_absent (b ∷ s) zero h (suc d) = refl
clear_absent (b ∷ s) (suc c) h zero = refl
clear_absent (b ∷ s) (suc c) h (suc d) = clear_absent s c h d

module _ {S : Type 0} (K : Kind S) where
  -- the active columns of a row
  abbrev pub part : List (Row S) → List Bool → ℕ → List Bool
  part rows active q = meet (row_of K rows q).cols active

  module _ {rows : List (Row S)} {active : List Bool} {t : Tally} (ok : Tallied K rows active t) where
    pub ready_at : (q : ℕ) → q < length rows → has (shown t.ready) q ≡ ready active (row_of K rows q)
    ready_at q l = ap (λ s. has s q) ok.readies ∙ get_or-map (ready active) rows q (blank K) false l

    pub length_ready : t.ready.width ≡ length rows
    length_ready = sym (length_shown t.ready) ∙ ap length ok.readies ∙ length-map rows (ready active)

    -- a row with an active column has a count
    pub some_count : (q c : ℕ) → q < length rows → row_holds c (row_of K rows q) ≡ true → has active c ≡ true → 0 < get_or t.counts q 0
    some_count q c l h a =
        omega (arith, ok.counts q l, count_clear (part rows active q) c (has_meet (row_of K rows q).cols active c ∙ and_from _ _ h a))

  -- one column, c, leaves the active ones, and the rows that hold it have one active column fewer
  module _ (rows rows' : List (Row S)) (active held unused' : List Bool) (c : ℕ) (t t' : Tally) (ok : Tallied K rows active t) (low : Lowered held unused' t t')
      (is_active : has active c ≡ true) (same : length rows' ≡ length rows)
      (held_is : (q : ℕ) → q < length rows → has held q ≡ row_holds c (row_of K rows q))
      (parts : (q : ℕ) → q < length rows → (d : ℕ) → has (part rows' (set active c false) q) d ≡ has (set (part rows active q) c false) d)
      (unused_is : (q : ℕ) → q < length rows → unused (row_of K rows' q) ≡ has unused' q)
      (uses_kept : (q : ℕ) → q < length rows → row_holds c (row_of K rows q) ≡ false → unused (row_of K rows' q) ≡ unused (row_of K rows q)) where
    count_next : (q : ℕ) → q < length rows → (b : Bool) → row_holds c (row_of K rows q) ≡ b → bump b (count (part rows' (set active c false) q)) ≡ count (part rows active q)
    count_next q l true e =
        ap suc (count_same _ _ (parts q l)) ∙ count_clear (part rows active q) c (has_meet (row_of K rows q).cols active c ∙ and_from _ _ e is_active)
    count_next q l false e =
        let none : has (part rows active q) c ≡ false = has_meet (row_of K rows q).cols active c ∙ ap (λ b. b && has active c) e in
        count_same _ _ (λ d. parts q l d ∙ clear_absent (part rows active q) c none d)

    bump_same : (b : Bool) (x y : ℕ) → bump b x ≡ bump b y → x ≡ y
    bump_same true x y e = omega arith
    bump_same false x y e = e

    counts_next : (q : ℕ) → q < length rows → get_or t'.counts q 0 ≡ count (part rows' (set active c false) q)
    counts_next q l =
        let h = row_holds c (row_of K rows q) in
        bump_same h _ _ (ap (λ b. bump b (get_or t'.counts q 0)) (sym (held_is q l)) ∙ low.counts q ∙ ok.counts q l ∙ sym (count_next q l h refl))

    ready_next : (q : ℕ) → q < length rows → (b : Bool) → row_holds c (row_of K rows q) ≡ b → has (shown t'.ready) q ≡ ready (set active c false) (row_of K rows' q)
    ready_next q l true e =
        low.readies q ∙ cond-true _ _ _ (held_is q l ∙ e) ∙ ap₂ (λ u n. u && eqb n 1) (sym (unused_is q l)) (counts_next q l)
    ready_next q l false e =
        low.readies q ∙ cond-false _ _ _ (held_is q l ∙ e) ∙ ready_at ok q l
        ∙ ap₂ (λ u n. u && eqb n 1) (sym (uses_kept q l e)) (sym (count_next q l false e))

    pub tallied_next : Tallied K rows' (set active c false) t'
    tallied_next = record {
      counts = λ q l. counts_next q (omega (arith, same));
      readies = ext_get_or false _ _ (long ∙ sym (length-map rows' (ready (set active c false)) ∙ same)) (λ q h.
          let l : q < length rows = omega (arith, long) in
          ready_next q l (row_holds c (row_of K rows q)) refl ∙ sym (get_or-map (ready (set active c false)) rows' q (blank K) false (omega (arith, same))));
    }
      where
        long : length (shown t'.ready) ≡ length rows
        long = length_shown t'.ready ∙ low.wide ∙ length_ready ok

  -- the rows stay as they are
  pub part_stays : (rows : List (Row S)) (active : List Bool) (c q d : ℕ) → has (part rows (set active c false) q) d ≡ has (set (part rows active q) c false) d
  part_stays rows active c q d = ap (λ s. has s d) (meet_clear (row_of K rows q).cols active c)

  -- row r, whose one active column is c, is used for c
  module _ (rows : List (Row S)) (active : List Bool) (r c : ℕ) (in_r : r < length rows) (single : count (part rows active r) ≡ 1)
      (own : has (part rows active r) c ≡ true) where
    cleared_same : (s t : List Bool) → ((d : ℕ) → (d ≡ c → ⊥) → has s d ≡ has t d) → (d : ℕ) → has (set s c false) d ≡ has (set t c false) d
    cleared_same s t h d = go (cases_eq d c)
      where
        gone : (s : List Bool) (c : ℕ) → has (set s c false) c ≡ false
        gone [] c = refl
        gone (b ∷ s) zero = refl
        gone (b ∷ s) (suc c) = gone s c

        go : (d ≡ c) ⊎ (d ≡ c → ⊥) → has (set s c false) d ≡ has (set t c false) d
        go (inl e) = rw e (gone s c ∙ sym (gone t c))
        go (inr ne) = get_or-set_other s c d false false ne ∙ h d ne ∙ sym (get_or-set_other t c d false false ne)

    -- beside c, row r brings no active column
    summed : (s : List Bool) (d : ℕ) → (d ≡ c → ⊥) → (b : Bool) → has active d ≡ b
        → has (meet (sym_diff s (row_of K rows r).cols) active) d ≡ has (meet s active) d
    summed s d ne false e =
        has_meet (sym_diff s (row_of K rows r).cols) active d ∙ and_right _ _ e ∙ sym (has_meet s active d ∙ and_right _ _ e)
    summed s d ne true e =
        let none : has (row_of K rows r).cols d ≡ false = absent (has (row_of K rows r).cols d) refl in
        has_meet (sym_diff s (row_of K rows r).cols) active d
        ∙ ap (λ b. b && has active d) (has_sym_diff s (row_of K rows r).cols d ∙ ap (differs (has s d)) none ∙ differs_false (has s d)) ∙ sym (has_meet s active d)
      where
        absent : (b : Bool) → has (row_of K rows r).cols d ≡ b → b ≡ false
        absent false h = refl
        absent true h = absurd (ne (only_one (part rows active r) c d single own (has_meet (row_of K rows r).cols active d ∙ and_from _ _ h e)))

    joined : (q : ℕ) (b : Bool) → (d : ℕ)
        → has (meet (added_if K b (row_of K rows r) (row_of K rows q)).cols (set active c false)) d ≡ has (set (part rows active q) c false) d
    joined q false d = part_stays rows active c q d
    joined q true d =
        ap (λ s. has s d) (meet_clear (sym_diff (row_of K rows q).cols (row_of K rows r).cols) active c)
        ∙ cleared_same _ _ (λ e ne. summed (row_of K rows q).cols e ne (has active e) refl) d

    pub part_used : (q d : ℕ) → has (part (use_row K r c rows) (set active c false) q) d ≡ has (set (part rows active q) c false) d
    part_used q d = go (cases_eq q r)
      where
        go : (q ≡ r) ⊎ (q ≡ r → ⊥) → has (part (use_row K r c rows) (set active c false) q) d ≡ has (set (part rows active q) c false) d
        go (inl e) = rw e (ap (λ (x : Row S). has (meet x.cols (set active c false)) d) (use_same K rows r c in_r) ∙ part_stays rows active c r d)
        go (inr ne) =
            ap (λ (x : Row S). has (meet x.cols (set active c false)) d) (use_other K rows r c q ne) ∙ joined q (row_holds c (row_of K rows q)) d

  -- the lowest ready row, by the tally
  module _ {rows : List (Row S)} {active : List Bool} {t : Tally} (ok : Tallied K rows active t) where
    pub lowest_ready : (o : Option ℕ) → o ≡ lowest (λ b. b) (shown t.ready) → lowest (ready active) rows ≡ o
    lowest_ready o e = sym (lowest_map (ready active) rows) ∙ ap (lowest (λ b. b)) (sym ok.readies) ∙ sym e

    pub single_part : (r : ℕ) → Some r ≡ lowest (λ b. b) (shown t.ready) → count (part rows active r) ≡ 1
    single_part r e =
        let h = lowest_some (ready active) (blank K) rows r (lowest_ready (Some r) e) in
        eqb-true _ 1 (and_parts (unused (row_of K rows r)) _ h.0).1

    -- it has an active column
    pub some_part : (r : ℕ) → Some r ≡ lowest (λ b. b) (shown t.ready) → (s : List Bool) → s ≡ part rows active r → None ≡ lowest (λ b. b) s → ⊥
    some_part r e s z h =
        omega (arith, single_part r e, none_count (part rows active r) (lowest_none (λ b. b) false refl (part rows active r) (ap (lowest (λ b. b)) (sym z) ∙ sym h)))

    pub lone : (r c : ℕ) → Some r ≡ lowest (λ b. b) (shown t.ready) → (s : List Bool) → s ≡ part rows active r → Some c ≡ lowest (λ b. b) s → Lone K active rows r c
    lone r c e s z h =
        let q = lowest_ready (Some r) e in
        let l : lowest (λ b. b) (part rows active r) ≡ Some c = ap (lowest (λ b. b)) (sym z) ∙ sym h in
        record {
          row = q;
          only = ap (λ o. or_else o 0) l;
          within = (lowest_some (ready active) (blank K) rows r q).1;
          is_active = (and_parts (has (row_of K rows r).cols c) (has active c) (sym (has_meet (row_of K rows r).cols active c) ∙ (lowest_some (λ b. b) false (part rows active r) c l).0)).1;
        }

  pub tallied_moved : {rows rows' : List (Row S)} {active active' : List Bool} {t : Tally} → rows' ≡ rows → active' ≡ active → Tallied K rows active t → Tallied K rows' active' t
  tallied_moved e f h = rw (e, f) h

  -- row r, ready for c, is used for it
  module _ (rows : List (Row S)) (active : List Bool) (r c : ℕ) (is : Lone K active rows r c) where
    single : count (part rows active r) ≡ 1
    single = eqb-true _ 1 (and_parts (unused (row_of K rows r)) _ (lowest_some (ready active) (blank K) rows r is.row).0).1

    own : has (part rows active r) c ≡ true
    own = subst (λ d. has (part rows active r) d ≡ true) is.only (lowest_in (part rows active r) (omega (arith, single)))

    holds_own : row_holds c (row_of K rows r) ≡ true
    holds_own = (and_parts (has (row_of K rows r).cols c) (has active c) (sym (has_meet (row_of K rows r).cols active c) ∙ own)).0

    pub part_lone : (q d : ℕ) → has (part (use_row K r c rows) (set active c false) q) d ≡ has (set (part rows active q) c false) d
    part_lone q d = part_used rows active r c is.within single own q d

  -- the tally after that
  module _ (rows : List (Row S)) (active held unused' : List Bool) (r c : ℕ) (t t' : Tally) (ok : Tallied K rows active t) (low : Lowered held unused' t t')
      (is : Lone K active rows r c) (held_is : (q : ℕ) → q < length rows → has held q ≡ row_holds c (row_of K rows q))
      (unused_is : (q : ℕ) → q < length rows → unused (row_of K (use_row K r c rows) q) ≡ has unused' q) where
    kept : (q : ℕ) → row_holds c (row_of K rows q) ≡ false → (q ≡ r) ⊎ (q ≡ r → ⊥) → unused (row_of K (use_row K r c rows) q) ≡ unused (row_of K rows q)
    kept q e (inl z) = absurd (both_ways (row_holds c (row_of K rows q)) e (ap (λ i. row_holds c (row_of K rows i)) z ∙ holds_own rows active r c is))
    kept q e (inr ne) = ap unused (use_other K rows r c q ne ∙ ap (λ b. added_if K b (row_of K rows r) (row_of K rows q)) e)

    pub tallied_used : Tallied K (use_row K r c rows) (set active c false) t'
    tallied_used =
        tallied_next rows (use_row K r c rows) active held unused' c t t' ok low is.is_active (use_length K rows r c) held_is
        (λ q l d. part_lone rows active r c is q d) unused_is (λ q l e. kept q e (cases_eq q r))

-- of an elimination that peels: the rows that hold an active column
module _ {S : Type 0} {K : Kind S} {e : Elimination S} (ok : Going K e) (held : Columns) (c : ℕ) (held_is : shown held ≡ map (holding e.words.now c) (range_with_len 0 (length e.sides.now)))
    (is_active : has (shown e.active) c ≡ true) where
  high : length (rows_of K e) ≡ length e.sides.now
  high = length_lines K e.active.width e.words.now e.sides.now e.uses

  wide : held.width ≡ length e.sides.now
  wide = held_width held (holding e.words.now c) (length e.sides.now) held_is

  pub held_few : held.width ≤ 256
  held_few = omega (arith, wide, e.few)

  pub held_ready : e.tally.ready.width ≡ held.width
  held_ready = length_ready K ok.tallied ∙ high ∙ sym wide

  pub held_row : (q : ℕ) → q < length (rows_of K e) → has (shown held) q ≡ row_holds c (row_of K (rows_of K e) q)
  held_row q l =
      held_at K e.active.width e.words.now e.sides.now e.uses (shown held) c (shown_below e.active c is_active) held_is q (omega (arith, high))

  pub held_some : (q : ℕ) → has (shown held) q ≡ true → 0 < get_or e.tally.counts q 0
  held_some q h =
      let low : q < length (rows_of K e) = omega (arith, shown_below held q h, wide, high) in
      some_count K ok.tallied q c low (sym (held_row q low) ∙ h) is_active

-- A search whose rows are loaded, and nothing done yet: the method's start.
use Rattle.std.proofs.Common.{◌≡◌, ℕ, ◌<◌, ◌≤◌, Bool, true, false, ◌&&◌, eqb, List, [], map, length, get_or, sym, refl, ap, ◌∙◌, ap₂, arith}
use lib.ListN.{length-map}
use Rattle.std.proofs.lemmas.List.FromFn.{get_or-map-range_with_len, length-map-range_with_len}
use Rattle.std.proofs.lemmas.List.{ext_get_or, get_or-map, get_or-replicate, length-take-le}
use Rattle.std.proofs.lemmas.Bool.{and_parts}
use Rattle.symbols.specs.Kinds.{Kind}
use Rattle.codes.specs.Matrix.{Matrix, Lawful, row_at, height, member}
use Rattle.codes.specs.MatrixLaws.{row_lawful}
use Rattle.method.specs.Sets.{has, meet, count, marks, marked}
use Rattle.method.specs.Method.{Row, missing, ready, row_of, blank, start_row, start_rows, start}
use Rattle.method.proofs.Counts.{count_le}
use Rattle.method.proofs.Marks.{has_meet, marks_in, member_marked, marked_lawful}
use Rattle.policies.specs.Shown.{shown}
use Rattle.policies.proofs.Marks.{length_shown}
use Rattle.search.specs.declared.elimination.Elimination.{Elimination}
use Rattle.search.specs.Loads.{Loaded, Begun, single}
use Rattle.search.specs.Rows.{KeptBelow}
use Rattle.search.specs.Searches.{marks_in as places_in}
use Rattle.search.specs.Steps.{Going}
use Rattle.search.specs.View.{used_if, lines, rows_of, bare}
use Rattle.search.proofs.Keeping.{kept_whole}
use Rattle.search.proofs.Lines.{length_lines, line_at, unused_at}
use Rattle.search.proofs.Loading.{count_marks}
use Rattle.search.proofs.Tallies.{count_same}

-- of marked columns all are in the set
pub meet_marked : (n : ℕ) (s : List Bool) (xs : List ℕ) (c : ℕ) → has (meet (marks n (marked s xs)) s) c ≡ has (marks n (marked s xs)) c
meet_marked n s xs c = has_meet (marks n (marked s xs)) s c ∙ go (has (marks n (marked s xs)) c) refl
  where
    go : (b : Bool) → has (marks n (marked s xs)) c ≡ b → (b && has s c) ≡ b
    go false e = refl
    go true e = (and_parts (member c xs) (has s c) (sym (member_marked s xs c) ∙ (marks_in n (marked s xs) c e).1)).1

module _ {S : Type 0} (K : Kind S) (k : Matrix) (ok : Lawful k) (received : List Bool) (syms : List S) (counts : List ℕ) (e : Elimination S)
    (wide : k.width ≤ length received) (high : length e.sides.now ≡ height k)
    (loaded : Loaded K k received syms e.words.now e.sides.now counts (length e.sides.now)) (begun : Begun k.width (length e.sides.now) received counts e) where
  n : ℕ
  n = k.width

  got : List Bool
  got = places_in k received

  length_got : length (places_in k received) ≡ k.width
  length_got = length-take-le k.width received wide

  pub active_width : e.active.width ≡ k.width
  active_width = sym (length_shown e.active) ∙ ap length begun.active ∙ length-map (places_in k received) _ ∙ length_got

  all_unused : (q : ℕ) → q < length e.sides.now → has (shown e.uses.unused) q ≡ true
  all_unused q l = ap (λ s. has s q) begun.unused ∙ get_or-replicate (length e.sides.now) q true false l

  rows_are : lines K k.width e.words.now e.sides.now e.uses ≡ start_rows K k (places_in k received) syms
  rows_are =
      let long = length_lines K k.width e.words.now e.sides.now e.uses in
      ext_get_or (blank K) _ _ (long ∙ high ∙ sym (length-map k.rows (start_row K k.width (places_in k received) syms))) (λ q h.
      let l : q < length e.sides.now = omega arith in
      let read = loaded.each q l in
      line_at K k.width e.words.now e.sides.now e.uses q l
      ∙ (λ i. record { cols = read.cols i; right = read.right i; used = used_if (all_unused q l i) (get_or e.uses.columns q 0) })
      ∙ sym (get_or-map (start_row K k.width (places_in k received) syms) k.rows q [] (blank K) (omega (arith, high))))

  lines_are : rows_of K e ≡ start_rows K k (places_in k received) syms
  lines_are = ap (λ m. lines K m e.words.now e.sides.now e.uses) active_width ∙ rows_are

  pub begun_state : bare K e ≡ start K k (places_in k received) syms tt
  begun_state =
      λ i. record { rows = lines_are i; active = begun.active i; pivots = begun.pivots i; free = begun.free i; additions = begun.additions i; policy = tt }

  -- the counts are those of the missing columns
  counts_are : (q : ℕ) → q < length e.sides.now → get_or e.tally.counts q 0 ≡ count (meet (row_of K (rows_of K e) q).cols (shown e.active))
  counts_are q l =
      let xs = row_at k q in
      let miss = missing (places_in k received) in
      let cols : (row_of K (rows_of K e) q).cols ≡ marks k.width (marked miss xs) =
      ap (λ rs. (row_of K rs q).cols) (ap (λ m. lines K m e.words.now e.sides.now e.uses) active_width) ∙ ap (λ (x : Row S). x.cols) (line_at K k.width e.words.now e.sides.now e.uses q l) ∙ (loaded.each q l).cols in
      ap (λ cs. get_or cs q 0) begun.counted ∙ (loaded.each q l).many
      ∙ sym (ap₂ (λ a b. count (meet a b)) cols begun.active ∙ count_same _ _ (meet_marked k.width miss xs)
      ∙ count_marks k.width (marked miss xs) (marked_lawful k.width miss xs (row_lawful k ok q)))

  pub begun_going : KeptBelow e.kept.now e.words.now (length e.sides.now) → Going K e
  begun_going below = record {
    room = record { added = omega (arith, begun.additions, few_active); unfreed = ap length begun.free };
    tallied = record { counts = λ q h. counts_are q (omega (arith, long)); readies = readies };
    kept = kept_whole (shown e.active) below;
  }
    where
      few_active : count (shown e.active) ≤ 512
      few_active = omega (arith, count_le (shown e.active), length_shown e.active, e.active.narrow)

      rows : List (Row S)
      rows = rows_of K e

      long : length rows ≡ length e.sides.now
      long = length_lines K e.active.width e.words.now e.sides.now e.uses

      ready_is : (q : ℕ) → q < length e.sides.now → single counts q ≡ ready (shown e.active) (row_of K rows q)
      ready_is q l =
          ap (λ cs. eqb (get_or cs q 0) 1) (sym begun.counted) ∙ ap (λ m. eqb m 1) (counts_are q l)
          ∙ ap (λ b. b && eqb (count (meet (row_of K rows q).cols (shown e.active))) 1) (sym (unused_at K e.active.width e.words.now e.sides.now e.uses q l ∙ all_unused q l))

      readies : shown e.tally.ready ≡ map (ready (shown e.active)) rows
      readies =
          begun.ready ∙ ext_get_or false _ _ (length-map-range_with_len (single counts) 0 (length e.sides.now) ∙ sym (length-map rows (ready (shown e.active)) ∙ long)) (λ q h.
          let l : q < length e.sides.now = omega (arith, length-map-range_with_len (single counts) 0 (length e.sides.now)) in
          get_or-map-range_with_len (single counts) 0 (length e.sides.now) q q false l (omega arith) ∙ ready_is q l
          ∙ sym (get_or-map (ready (shown e.active)) rows q (blank K) false (omega (arith, long))))

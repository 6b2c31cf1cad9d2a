-- A row of a code read column by column.
use Rattle.std.proofs.Common.{◌≡◌, ℕ, suc, ◌+◌, ◌*◌, ◌/◌, ◌<◌, ◌≤◌, Bool, true, false, not, ◌||◌, eqb, ◌⊎◌, List, [], ◌∷◌, ◌++◌, length, get_or, set, sym, refl, ap, ◌∙◌, ap₂, inl, inr, append-nil, arith, length-append, length-set, get_or-set_other, get_or-set_same, below_more}
use Rattle.std.proofs.lemmas.List.{ext_get_or}
use Rattle.std.proofs.lemmas.Bool.{cases_eq, eq-eqb, ne_eqb}
use Rattle.bits.specs.Sets.{holds, Put, row, put_row}
use Rattle.bits.proofs.Rows.{row_put_same, row_put_other}
use Rattle.symbols.specs.Kinds.{Kind, SumLaws}
use Rattle.symbols.specs.Sums.{sum_at}
use Rattle.codes.specs.Matrix.{Matrix, Lawful, row_at, member}
use Rattle.codes.specs.MatrixLaws.{row_lawful}
use Rattle.codes.specs.Matrix.{Row as LawfulRow}
use Rattle.method.specs.Sets.{has, count, marks, kept_if, marked}
use Rattle.method.specs.Method.{missing}
use Rattle.method.proofs.Counts.{count_clear, none_count, count_le}
use Rattle.method.proofs.Marks.{has_missing, has_marks, length_table, marks_less, marks_none}
use Rattle.policies.specs.Shown.{marks_of}
use Rattle.policies.proofs.Marks.{length_marks, marks_at}
use Rattle.search.specs.declared.elimination.Elimination.{Elimination}
use Rattle.search.specs.Loads.{Read, Loaded, Begun}
use Rattle.search.proofs.Tallies.{count_same}

or_false : (b : Bool) → (b || false) ≡ b
or_false true = refl
or_false false = refl

member_push : (d : ℕ) (xs : List ℕ) (c : ℕ) → member d (xs ++ c ∷ []) ≡ (member d xs || eqb c d)
member_push d [] c = or_false (eqb c d)
member_push d (x ∷ xs) c = go (eqb x d) (member_push d xs c)
  where
    go : (b : Bool) → member d (xs ++ c ∷ []) ≡ (member d xs || eqb c d) → (b || member d (xs ++ c ∷ [])) ≡ ((b || member d xs) || eqb c d)
    go true e = refl
    go false e = e

eqb_turned : (c d : ℕ) → eqb d c ≡ eqb c d
eqb_turned c d = go (cases_eq d c)
  where
    go : (d ≡ c) ⊎ (d ≡ c → ⊥) → eqb d c ≡ eqb c d
    go (inl e) = eq-eqb d c e ∙ sym (eq-eqb c d (sym e))
    go (inr ne) = ne_eqb d c ne ∙ sym (ne_eqb c d (λ e. ne (sym e)))

marked_push : (s : List Bool) (xs : List ℕ) (c : ℕ) → marked s (xs ++ c ∷ []) ≡ marked s xs ++ kept_if (has s c) c []
marked_push s [] c = refl
marked_push s (x ∷ xs) c = go (has s x) (marked_push s xs c)
  where
    go : (b : Bool) → marked s (xs ++ c ∷ []) ≡ marked s xs ++ kept_if (has s c) c []
        → kept_if b x (marked s (xs ++ c ∷ [])) ≡ kept_if b x (marked s xs) ++ kept_if (has s c) c []
    go true e = ap (λ ys. x ∷ ys) e
    go false e = e

-- a row's columns: different, below the width, and so no more than it
pub count_marks : (n : ℕ) (xs : List ℕ) → LawfulRow n xs → count (marks n xs) ≡ length xs
count_marks n [] h = none_count (marks n []) (marks_none n)
count_marks n (x ∷ xs) h =
    let in' : has (marks n (x ∷ xs)) x ≡ true = has_marks n (x ∷ xs) x h.within.0 ∙ ap (λ b. b || member x xs) (eq-eqb x x refl) in
    sym (count_clear (marks n (x ∷ xs)) x in')
    ∙ ap suc (count_same _ _ (marks_less n x xs h.within.0 h.apart.0) ∙ count_marks n xs (record { within = h.within.1; apart = h.apart.1 }))

row_short : (n : ℕ) (xs : List ℕ) → LawfulRow n xs → length xs ≤ n
row_short n xs h = omega (arith, count_marks n xs h, count_le (marks n xs), length_table n (λ c. member c xs))

pub row_few : (k : Matrix) → Lawful k → (r : ℕ) → length (row_at k r) ≤ 512
row_few k ok r = omega (arith, row_short k.width (row_at k r) (row_lawful k ok r), ok.few_columns)

-- a sum with one place more
pub sum_at_push : {S : Type 0} {z : S} {sum : S → S → S} → SumLaws z sum → (syms : List S) (xs : List ℕ) (c : ℕ)
    → sum_at z sum syms (xs ++ c ∷ []) ≡ sum (sum_at z sum syms xs) (get_or syms c z)
sum_at_push laws syms [] c = laws.commutative _ _
sum_at_push {z = z} {sum = sum} laws syms (x ∷ xs) c = ap (sum (get_or syms x z)) (sum_at_push laws syms xs c) ∙ sym (laws.associative _ _ _)

-- these columns are read: the sum of those received, and l missing
pub record Reading {S : Type 0} (K : Kind S) (syms : List S) (got : List Bool) (cs line : List ℕ) (side : S) (l : ℕ) : Type 0 where
  pub eight : length line ≡ 8
  pub held : (d : ℕ) → holds line d ≡ member d (marked (missing got) cs)
  pub right : side ≡ sum_at K.zero K.sum syms (marked got cs)
  pub lost : l ≡ length (marked (missing got) cs)
  pub few : l ≤ length cs

module _ {S : Type 0} (K : Kind S) (syms : List S) (got : List Bool) (cs line : List ℕ) (side : S) (l c : ℕ) (so : Reading K syms got cs line side l) (low : c < length got) where
  more : (s : List Bool) → has s c ≡ true → marked s (cs ++ c ∷ []) ≡ marked s cs ++ c ∷ []
  more s e = marked_push s cs c ∙ ap (λ b. marked s cs ++ kept_if b c []) e

  less : (s : List Bool) → has s c ≡ false → marked s (cs ++ c ∷ []) ≡ marked s cs
  less s e = marked_push s cs c ∙ ap (λ b. marked s cs ++ kept_if b c []) e ∙ append-nil (marked s cs)

  pub reading_got : SumLaws K.zero K.sum → has got c ≡ true → (side' : S) → side' ≡ K.sum side (get_or syms c K.zero) → Reading K syms got (cs ++ c ∷ []) line side' l
  reading_got laws e side' z =
      let off : has (missing got) c ≡ false = has_missing got c low ∙ ap not e in
      record {
        eight = so.eight;
        held = λ d. so.held d ∙ ap (member d) (sym (less (missing got) off));
        right = z ∙ ap (λ x. K.sum x (get_or syms c K.zero)) so.right ∙ sym (ap (sum_at K.zero K.sum syms) (more got e) ∙ sum_at_push laws syms (marked got cs) c);
        lost = so.lost ∙ ap length (sym (less (missing got) off));
        few = omega (arith, so.few, length-append cs (c ∷ []));
      }

  pub reading_lost : has got c ≡ false → (line' : List ℕ) → length line' ≡ length line → Put c line line' → c < 512 → Reading K syms got (cs ++ c ∷ []) line' side (l + 1)
  reading_lost e line' same put narrow =
      let on : has (missing got) c ≡ true = has_missing got c low ∙ ap not e in
      let within : c / 64 < length line = omega (arith, so.eight) in
      record {
        eight = same ∙ so.eight;
        held = λ d. put.within within d ∙ ap₂ ◌||◌ (so.held d) (eqb_turned c d) ∙ sym (ap (member d) (more (missing got) on) ∙ member_push d (marked (missing got) cs) c);
        right = so.right ∙ ap (sum_at K.zero K.sum syms) (sym (less got e));
        lost = ap (λ n. n + 1) so.lost ∙ sym (ap length (more (missing got) on) ∙ length-append (marked (missing got) cs) (c ∷ []));
        few = omega (arith, so.few, length-append cs (c ∷ []));
      }

-- the words of a row, as the marks of its missing columns
pub reading_marks : (n : ℕ) (line xs : List ℕ) → ((d : ℕ) → holds line d ≡ member d xs) → marks_of n line ≡ marks n xs
reading_marks n line xs held =
    ext_get_or false _ _ (length_marks n line ∙ sym (length_table n (λ c. member c xs))) (λ c h.
    let l : c < n = omega (arith, length_marks n line) in
    marks_at n line c false l ∙ held c ∙ sym (has_marks n xs c l))

pub reading_moved : {S : Type 0} {K : Kind S} {syms : List S} {got : List Bool} {cs line line' : List ℕ} {side side' : S} {l l' : ℕ} → line' ≡ line → side' ≡ side → l' ≡ l
    → Reading K syms got cs line side l → Reading K syms got cs line' side' l'
reading_moved a b e h = rw (a, b, e) h

-- every row loaded
module _ {S : Type 0} (K : Kind S) (k : Matrix) (received : List Bool) (syms : List S) where
  read_moved : {q : ℕ} {line line' : List ℕ} {side side' : S} {some some' : ℕ} → line' ≡ line → side' ≡ side → some' ≡ some
      → Read K k received syms q line side some → Read K k received syms q line' side' some'
  read_moved a b e h = rw (a, b, e) h

  pub loaded_moved : {ws ws' : List ℕ} {ss ss' : List S} {counts : List ℕ} {i i' : ℕ} → ws' ≡ ws → ss' ≡ ss → i' ≡ i
      → Loaded K k received syms ws ss counts i → Loaded K k received syms ws' ss' counts i'
  loaded_moved a b e h = rw (a, b, e) h

  pub loaded_none : (ws : List ℕ) (ss : List S) (counts : List ℕ) → length counts ≡ 256 → Loaded K k received syms ws ss counts 0
  loaded_none ws ss counts l = record { all = l; each = λ q h. absurd (omega arith) }

  pub loaded_more : (ws ws' : List ℕ) (ss ss' : List S) (counts counts' : List ℕ) (i : ℕ) (line : List ℕ) (side : S) (some : ℕ)
      → Loaded K k received syms ws ss counts i → Read K k received syms i line side some → 8 * i + 8 ≤ length ws → i < length ss → i < 256
      → ws' ≡ put_row ws i line → ss' ≡ set ss i side → counts' ≡ set counts i some → Loaded K k received syms ws' ss' counts' (i + 1)
  loaded_more ws ws' ss ss' counts counts' i line side some h read long in' few a b e = record {
    all = ap length e ∙ length-set counts i some ∙ h.all;
    each = below_more (λ q. Read K k received syms q (row ws' q) (get_or ss' q K.zero) (get_or counts' q 0)) i
        (λ q l. read_moved
        (ap (λ xs. row xs q) a ∙ row_put_other ws line i read.eight q (omega arith))
        (ap (λ xs. get_or xs q K.zero) b ∙ get_or-set_other ss i q side K.zero (omega arith))
        (ap (λ xs. get_or xs q 0) e ∙ get_or-set_other counts i q some 0 (omega arith)) (h.each q l))
        (read_moved
        (ap (λ xs. row xs i) a ∙ row_put_same ws line i read.eight long)
        (ap (λ xs. get_or xs i K.zero) b ∙ get_or-set_same ss i side K.zero in')
        (ap (λ xs. get_or xs i 0) e ∙ get_or-set_same counts i some 0 (omega (arith, h.all))) read);
  }

pub begun_moved : {S : Type 0} {n n' m m' : ℕ} {received : List Bool} {counts : List ℕ} {e : Elimination S} → n' ≡ n → m' ≡ m → Begun n m received counts e → Begun n' m' received counts e
begun_moved a b h = rw (a, b) h

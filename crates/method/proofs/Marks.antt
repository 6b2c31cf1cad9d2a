-- Sets as marks: what is in them.
use Rattle.std.proofs.Common.{◌≡◌, ℕ, zero, suc, ◌<◌, ◌≤◌, Bool, true, false, not, ◌&&◌, ◌||◌, eqb, ◌≢◌, ◌⊎◌, List, [], ◌∷◌, length, get_or, set, Some, None, Option, sym, refl, ap, ◌∙◌, inl, inr, ⊎_elim, arith, get_or-set_other, get_or-set_same}
use mathlib.Core.Bool.{and-false}
use Rattle.std.specs.List.{AllByRecursion}
use Rattle.std.proofs.lemmas.List.{get_or_past}
use Rattle.std.proofs.lemmas.Bool.{false≢true, both_ways, not-true, cases_eq, cases_lt, and_right, eqb-true, ne_eqb}
use Rattle.codes.specs.Matrix.{member, Apart}
use Rattle.codes.specs.Matrix.{Row as LawfulRow}
use Rattle.method.specs.Sets.{has, differs, sym_diff, meet, lowest, here_or, table, marks, kept_if, marked}
use Rattle.method.specs.Method.{missing}

pub none_some : {c : ℕ} → ◌≡◌ {A = Option ℕ} None (Some c) → ⊥
none_some e = let z : ◌≡◌ {A = ℕ} 0 1 = cc in omega arith

-- what is marked lies below the length
pub has_below : (s : List Bool) (c : ℕ) → has s c ≡ true → c < length s
has_below s c h =
    ⊎_elim (λ (l : c < length s). l) (λ (l : length s ≤ c). absurd (both_ways (has s c) (get_or_past s c false l) h)) (cases_lt c (length s))

pub differs_false : (b : Bool) → differs b false ≡ b
differs_false true = refl
differs_false false = refl

-- what is in a symmetric difference, and in both of two sets
pub has_sym_diff : (s t : List Bool) (c : ℕ) → has (sym_diff s t) c ≡ differs (has s c) (has t c)
has_sym_diff [] t c = refl
has_sym_diff (a ∷ s) [] c = sym (differs_false (has (a ∷ s) c))
has_sym_diff (a ∷ s) (b ∷ t) zero = refl
has_sym_diff (a ∷ s) (b ∷ t) (suc c) = has_sym_diff s t c

pub has_meet : (s t : List Bool) (c : ℕ) → has (meet s t) c ≡ (has s c && has t c)
has_meet [] t c = refl
has_meet (a ∷ s) [] c = sym (and-false (has (a ∷ s) c))
has_meet (a ∷ s) (b ∷ t) zero = refl
has_meet (a ∷ s) (b ∷ t) (suc c) = has_meet s t c

-- a set without c: what is left of it, and that a set of nothing stays so
pub clear_is : (s : List Bool) (c d : ℕ) → has (set s c false) d ≡ true → (has s d ≡ true) × (d ≢ c)
clear_is [] c d e = absurd (false≢true e)
clear_is (b ∷ s) zero zero e = absurd (false≢true e)
clear_is (b ∷ s) zero (suc d) e = (e, λ z. omega arith)
clear_is (b ∷ s) (suc c) zero e = (e, λ z. omega arith)
clear_is (b ∷ s) (suc c) (suc d) e = let t = clear_is s c d e in (t.0, λ z. t.1 (omega arith))

pub clear_keeps : (s : List Bool) (c : ℕ) → ((d : ℕ) → has s d ≡ false) → (d : ℕ) → has (set s c false) d ≡ false
clear_keeps [] c h d = refl
clear_keeps (b ∷ s) zero h zero = refl
clear_keeps (b ∷ s) zero h (suc d) = h (suc d)
clear_keeps (b ∷ s) (suc c) h zero = h 0
clear_keeps (b ∷ s) (suc c) h (suc d) = clear_keeps s c (λ d. h (suc d)) d

-- the missing places are those below the length that are not received
pub has_missing : (got : List Bool) (c : ℕ) → c < length got → has (missing got) c ≡ not (has got c)
has_missing [] c h = absurd (omega arith)
has_missing (b ∷ got) zero h = refl
has_missing (b ∷ got) (suc c) h = has_missing got c (omega arith)

pub missing_is : (got : List Bool) (c : ℕ) → has (missing got) c ≡ true → (has got c ≡ false) × (c < length got)
missing_is [] c e = absurd (false≢true e)
missing_is (b ∷ got) zero e = (not-true b e, omega arith)
missing_is (b ∷ got) (suc c) e = let t = missing_is got c e in (t.0, omega (arith, t.1))

pub missing_from : (got : List Bool) (c : ℕ) → c < length got → has got c ≡ false → has (missing got) c ≡ true
missing_from got c h e = has_missing got c h ∙ ap not e

-- a table's places, and the marks of listed numbers
pub get_or_table : {A : Type 0} (n : ℕ) (f : ℕ → A) (c : ℕ) (d : A) → c < n → get_or (table n f) c d ≡ f c
get_or_table zero f c d h = absurd (omega arith)
get_or_table (suc n) f zero d h = refl
get_or_table (suc n) f (suc c) d h = get_or_table n (λ i. f (suc i)) c d (omega arith)

pub length_table : {A : Type 0} (n : ℕ) (f : ℕ → A) → length (table n f) ≡ n
length_table zero f = refl
length_table (suc n) f = ap suc (length_table n (λ i. f (suc i)))

pub has_marks : (n : ℕ) (xs : List ℕ) (c : ℕ) → c < n → has (marks n xs) c ≡ member c xs
has_marks n xs c h = get_or_table n (λ i. member i xs) c false h

pub marks_past : (n : ℕ) (xs : List ℕ) (c : ℕ) → n ≤ c → has (marks n xs) c ≡ false
marks_past n xs c h = get_or_past (marks n xs) c false (omega (arith, length_table n (λ i. member i xs)))

pub marks_none : (n c : ℕ) → has (marks n []) c ≡ false
marks_none n c = ⊎_elim (λ (h : c < n). has_marks n [] c h) (λ (h : n ≤ c). marks_past n [] c h) (cases_lt c n)

pub marks_in : (n : ℕ) (xs : List ℕ) (c : ℕ) → has (marks n xs) c ≡ true → (c < n) × (member c xs ≡ true)
marks_in n xs c e =
    ⊎_elim (λ (h : c < n). (h, sym (has_marks n xs c h) ∙ e)) (λ (h : n ≤ c). absurd (both_ways (has (marks n xs) c) (marks_past n xs c h) e)) (cases_lt c n)

-- the marks of x ∷ xs, without x, are those of xs
pub marks_less : (n x : ℕ) (xs : List ℕ) → x < n → member x xs ≡ false → (c : ℕ) → has (set (marks n (x ∷ xs)) x false) c ≡ has (marks n xs) c
marks_less n x xs l e c = go (cases_eq c x) (cases_lt c n)
  where
    go : (c ≡ x) ⊎ (c ≡ x → ⊥) → (c < n) ⊎ (n ≤ c) → has (set (marks n (x ∷ xs)) x false) c ≡ has (marks n xs) c
    go (inl z) w =
        rw z (get_or-set_same (marks n (x ∷ xs)) x false false (omega (arith, length_table n (λ i. member i (x ∷ xs)))) ∙ sym (has_marks n xs x l ∙ e))
    go (inr z) (inl w) =
        get_or-set_other (marks n (x ∷ xs)) x c false false z ∙ has_marks n (x ∷ xs) c w
        ∙ ap (λ b. b || member c xs) (ne_eqb x c (λ y. z (sym y))) ∙ sym (has_marks n xs c w)
    go (inr z) (inr w) = get_or-set_other (marks n (x ∷ xs)) x c false false z ∙ marks_past n (x ∷ xs) c w ∙ sym (marks_past n xs c w)

-- those of the listed numbers that are marked
pub member_marked : (s : List Bool) (xs : List ℕ) (c : ℕ) → member c (marked s xs) ≡ (member c xs && has s c)
member_marked s [] c = refl
member_marked s (x ∷ xs) c = go (has s x) refl (eqb x c) refl (member_marked s xs c)
  where
    go : (b : Bool) → has s x ≡ b → (t : Bool) → eqb x c ≡ t → member c (marked s xs) ≡ (member c xs && has s c)
        → member c (kept_if b x (marked s xs)) ≡ ((t || member c xs) && has s c)
    go true e true q ih = ap (λ t. t || member c (marked s xs)) q ∙ sym (ap (has s) (sym (eqb-true x c q)) ∙ e)
    go true e false q ih = ap (λ t. t || member c (marked s xs)) q ∙ ih
    go false e true q ih =
        let no : has s c ≡ false = ap (has s) (sym (eqb-true x c q)) ∙ e in
        ih ∙ and_right (member c xs) (has s c) no ∙ sym no
    go false e false q ih = ih

pub marked_all : (P : ℕ → Type 0) (s : List Bool) (xs : List ℕ) → AllByRecursion P xs → AllByRecursion P (marked s xs)
marked_all P s [] h = tt
marked_all P s (x ∷ xs) h = go (has s x) (marked_all P s xs h.1)
  where
    go : (b : Bool) → AllByRecursion P (marked s xs) → AllByRecursion P (kept_if b x (marked s xs))
    go true ih = (h.0, ih)
    go false ih = ih

marked_apart : (s : List Bool) (xs : List ℕ) → Apart xs → Apart (marked s xs)
marked_apart s [] h = tt
marked_apart s (x ∷ xs) h = go (has s x) (marked_apart s xs h.1)
  where
    go : (b : Bool) → Apart (marked s xs) → Apart (kept_if b x (marked s xs))
    go true ih = (member_marked s xs x ∙ ap (λ b. b && has s x) h.0, ih)
    go false ih = ih

pub marked_lawful : (n : ℕ) (s : List Bool) (row : List ℕ) → LawfulRow n row → LawfulRow n (marked s row)
marked_lawful n s row h = record { within = marked_all (λ c. c < n) s row h.within; apart = marked_apart s row h.apart }

-- the lowest place that passes: it passes, and without one none passes
pub lowest_some : {A : Type 0} (p : A → Bool) (d : A) (xs : List A) (r : ℕ) → lowest p xs ≡ Some r → (p (get_or xs r d) ≡ true) × (r < length xs)
lowest_some p d [] r e = absurd (none_some e)
lowest_some {A} p d (x ∷ xs) r e = go (p x) refl (lowest p xs) (lowest_some p d xs) e
  where
    go : (b : Bool) → p x ≡ b → (o : Option ℕ) → ((i : ℕ) → o ≡ Some i → (p (get_or xs i d) ≡ true) × (i < length xs))
        → here_or b o ≡ Some r → (p (get_or (x ∷ xs) r d) ≡ true) × (r < length (x ∷ xs))
    go true q o ih e = let z : r ≡ 0 = cc in (rw z q, omega arith)
    go false q None ih e = absurd (none_some e)
    go false q (Some i) ih e = let z : r ≡ suc i = cc in rw z ((ih i refl).0, omega (arith, (ih i refl).1))

pub lowest_none : {A : Type 0} (p : A → Bool) (d : A) → p d ≡ false → (xs : List A) → lowest p xs ≡ None → (r : ℕ) → p (get_or xs r d) ≡ false
lowest_none p d h [] e r = h
lowest_none {A} p d h (x ∷ xs) e r = go (p x) refl (lowest p xs) (lowest_none p d h xs) e r
  where
    go : (b : Bool) → p x ≡ b → (o : Option ℕ) → (o ≡ None → (r : ℕ) → p (get_or xs r d) ≡ false)
        → here_or b o ≡ None → (r : ℕ) → p (get_or (x ∷ xs) r d) ≡ false
    go true q o ih e r = absurd (none_some (sym e))
    go false q None ih e zero = q
    go false q None ih e (suc r) = ih refl r
    go false q (Some i) ih e r = absurd (none_some (sym e))

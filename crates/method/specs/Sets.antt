-- Sets of numbers as lists of marks: number c is in the set where the mark at place c is true.
--
--   has           whether a number is marked
--   sym_diff      the symmetric difference of two sets, as long as the longer
--   meet          what is marked in both
--   count         how many numbers are marked
--   lowest        the lowest place of a list whose element passes a test
--   table, marks  a function's values at 0 to n - 1; the marks of the listed numbers below n
--   marked        those of the listed numbers that are marked
use Rattle.std.specs.Prelude.{ℕ, zero, suc, Bool, true, false, not, ◌&&◌, List, [], ◌∷◌, Some, None, Option, slice_index_or}
use Rattle.codes.specs.Matrix.{member}

abbrev pub has : List Bool → ℕ → Bool
has s c = slice_index_or s c false

abbrev pub differs : Bool → Bool → Bool
differs true b = not b
differs false b = b

abbrev pub sym_diff : List Bool → List Bool → List Bool
sym_diff [] t = t
sym_diff (a ∷ s) [] = a ∷ s
sym_diff (a ∷ s) (b ∷ t) = differs a b ∷ sym_diff s t

abbrev pub meet : List Bool → List Bool → List Bool
meet [] t = []
meet (a ∷ s) [] = []
meet (a ∷ s) (b ∷ t) = (a && b) ∷ meet s t

-- one more where the test passes
abbrev pub bump : Bool → ℕ → ℕ
bump true n = suc n
bump false n = n

abbrev pub count : List Bool → ℕ
count [] = 0
count (b ∷ s) = bump b (count s)

-- one place further on
abbrev pub later : Option ℕ → Option ℕ
later None = None
later (Some c) = Some (suc c)

abbrev pub here_or : Bool → Option ℕ → Option ℕ
here_or true o = Some 0
here_or false o = later o

abbrev pub lowest : {A : Type 0} → (A → Bool) → List A → Option ℕ
lowest p [] = None
lowest p (x ∷ xs) = here_or (p x) (lowest p xs)

abbrev pub or_else : Option ℕ → ℕ → ℕ
or_else None d = d
or_else (Some c) d = c

abbrev pub table : {A : Type 0} → ℕ → (ℕ → A) → List A
table zero f = []
table (suc n) f = f 0 ∷ table n (λ c. f (suc c))

abbrev pub marks : ℕ → List ℕ → List Bool
marks n xs = table n (λ c. member c xs)

abbrev pub kept_if : Bool → ℕ → List ℕ → List ℕ
kept_if true x xs = x ∷ xs
kept_if false x xs = xs

abbrev pub marked : List Bool → List ℕ → List ℕ
marked s [] = []
marked s (x ∷ xs) = kept_if (has s x) x (marked s xs)

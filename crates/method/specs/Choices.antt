-- What each policy names, and the law that every policy keeps.
--
--   Names         an answer that names an active column, and none only where no column is active
--   Naming        the law of a policy: all that it answers is such
--   plain         a policy without a state of its own
--   first         the lowest active column
--   heaviest      the active column that the most unused rows hold, the lowest on a tie
--   largest       the lowest column of the largest set that unused rows with two active columns join, of the set with
--                 the lowest such column on a tie; none where there is no such row
--   component     largest, and another policy where that names none
--   replay        the columns of a list in turn, each while it is active, and else what another policy names
use Rattle.std.specs.Prelude.{◌≡◌, ℕ, zero, suc, min, max, Bool, true, false, cond, ◌&&◌, List, [], ◌∷◌, map, length, Some, None, Option, ◌==◌, nat_lt, slice_index_or}
use Rattle.std.specs.List.{range_with_len}
use Rattle.codes.specs.Matrix.{Matrix, row_at, height, member}
use Rattle.method.specs.Sets.{has, bump, lowest, marked}
use Rattle.method.specs.Method.{Choice}

abbrev pub Names : List Bool → Option ℕ → Type 0
Names a None = (c : ℕ) → has a c ≡ false
Names a (Some c) = has a c ≡ true

abbrev pub Naming : {P : Type 0} → Choice P → Type 0
Naming {P} choice = (p : P) (a u : List Bool) → Names a (choice p a u).0

abbrev pub plain : {P : Type 0} → (List Bool → List Bool → Option ℕ) → Choice P
plain f p a u = (f a u, p)

abbrev pub first : List Bool → Option ℕ
first a = lowest (λ b. b) a

-- how many numbers below n pass the test
abbrev pub count_to : (ℕ → Bool) → ℕ → ℕ
count_to t zero = 0
count_to t (suc n) = bump (t n) (count_to t n)

-- the choice so far, or c where c is active and heavier
abbrev pub better : (ℕ → ℕ) → ℕ → Bool → Option ℕ → Option ℕ
better w c false o = o
better w c true None = Some c
better w c true (Some b) = cond (nat_lt (w b) (w c)) (Some c) (Some b)

-- the heaviest active column below n, the lowest on a tie
abbrev pub top_to : (ℕ → ℕ) → List Bool → ℕ → Option ℕ
top_to w a zero = None
top_to w a (suc n) = better w n (has a n) (top_to w a n)

abbrev pub top : (ℕ → ℕ) → List Bool → Option ℕ
top w a = top_to w a (length a)

-- whether row r is unused and holds c
abbrev pub burdens : Matrix → List Bool → ℕ → ℕ → Bool
burdens k u c r = has u r && member c (row_at k r)

-- how many unused rows hold c
abbrev pub column_weight : Matrix → List Bool → ℕ → ℕ
column_weight k u c = count_to (burdens k u c) (height k)

abbrev pub heaviest : Matrix → List Bool → List Bool → Option ℕ
heaviest k a u = top (column_weight k u) a

-- the two numbers of a list of two
abbrev pub pair_of : List ℕ → Option (ℕ × ℕ)
pair_of [] = None
pair_of (x ∷ []) = None
pair_of (x ∷ (y ∷ [])) = Some (x, y)
pair_of (x ∷ (y ∷ (z ∷ zs))) = None

abbrev pub with_pair : Bool → Option (ℕ × ℕ) → List (ℕ × ℕ) → List (ℕ × ℕ)
with_pair false o es = es
with_pair true None es = es
with_pair true (Some e) es = e ∷ es

-- the pairs that unused rows with two active columns join, among the first r rows
abbrev pub joins : Matrix → List Bool → List Bool → ℕ → List (ℕ × ℕ)
joins k a u zero = []
joins k a u (suc r) = with_pair (has u r) (pair_of (marked a (row_at k r))) (joins k a u r)

-- the label for l, where the labels x and y become the lower of the two
abbrev pub merged : ℕ → ℕ → ℕ → ℕ
merged x y l = cond (l == max x y) (min x y) l

abbrev pub label : List ℕ → ℕ → ℕ
label ls c = slice_index_or ls c c

abbrev pub relabelled : ℕ × ℕ → List ℕ → List ℕ
relabelled e ls = map (merged (label ls e.0) (label ls e.1)) ls

-- a label for each column below n, the same exactly for those that the pairs join
abbrev pub labels : ℕ → List (ℕ × ℕ) → List ℕ
labels n [] = range_with_len 0 n
labels n (e ∷ es) = relabelled e (labels n es)

-- whether c is active and has the label l
abbrev pub in_set : List Bool → (ℕ → ℕ) → ℕ → ℕ → Bool
in_set a f l c = has a c && f c == l

abbrev pub size_of : List Bool → (ℕ → ℕ) → ℕ → ℕ
size_of a f l = count_to (in_set a f l) (length a)

-- the label of the largest set, the lowest on a tie; none where nothing is joined
abbrev pub largest_of : List Bool → List (ℕ × ℕ) → Option ℕ
largest_of a [] = None
largest_of a (e ∷ es) = top (size_of a (label (labels (length a) (e ∷ es)))) a

abbrev pub largest : Matrix → List Bool → List Bool → Option ℕ
largest k a u = largest_of a (joins k a u (height k))

abbrev pub or_below : {P : Type 0} → Option ℕ → P → Option ℕ × P → Option ℕ × P
or_below None p o = o
or_below (Some c) p o = (Some c, p)

abbrev pub component : {P : Type 0} → Matrix → Choice P → Choice P
component k below p a u = or_below (largest k a u) p (below p a u)

-- the next of a list of columns while it is active; else the list is passed by, and the policy below is asked
abbrev pub or_asked : {P : Type 0} → Bool → ℕ → List ℕ → P → Option ℕ × P → Option ℕ × (List ℕ × P)
or_asked true c cs p o = (Some c, (cs, p))
or_asked false c cs p o = (o.0, (cs, o.1))

abbrev pub replay_at : {P : Type 0} → Choice P → List ℕ → P → List Bool → List Bool → Option ℕ × (List ℕ × P)
replay_at below [] p a u = let o : Option ℕ × _ = below p a u in (o.0, ([], o.1))
replay_at below (c ∷ cs) p a u = or_asked (has a c) c cs p (below p a u)

abbrev pub replay : {P : Type 0} → Choice P → Choice (List ℕ × P)
replay below s a u = replay_at below s.0 s.1 a u

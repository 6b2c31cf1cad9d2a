-- Codewords that agree with what was received, and how an answer tells how many there are.
--
--   Agreeing      a codeword that equals the received symbols at the received places
--   No, Only, One, Two    of a predicate: nothing, just this, just one, at least two have it
--   Exactly       an answer that is none, one or several exactly when no, just one, at least two fillings have it;
--                 and where it is one, the filling given is that one
--   uncounted     an answer without the counts of its work
--   Different     no two elements of a list are equal: Pairwise so
--   Listing       so many have it: the elements of a list of that length, no two of them equal
use Rattle.std.specs.Prelude.{◌≡◌, ℕ, Bool, true, false, ◌≢◌, ◌↔◌, List, [], ◌∷◌, length, slice_index_or}
use Rattle.std.specs.List.{ContainsAt as Has, AllByRecursion}
use Rattle.symbols.specs.Kinds.{Kind}
use Rattle.codes.specs.Matrix.{Matrix}
use Rattle.codes.specs.Codewords.{Codeword}
use Rattle.method.specs.Sets.{has}
use Rattle.method.specs.Method.{Outcome, none, one, several}

pub record Agreeing {S : Type 0} (K : Kind S) (k : Matrix) (got : List Bool) (syms w : List S) : Type 0 where
  pub codeword : Codeword K k w
  pub agrees : (c : ℕ) → has got c ≡ true → slice_index_or w c K.zero ≡ slice_index_or syms c K.zero

abbrev pub No : {A : Type 0} → (A → Type 0) → Type 0
No {A} Q = (x : A) → Q x → ⊥

abbrev pub Only : {A : Type 0} → (A → Type 0) → A → Type 0
Only {A} Q x = Q x × ((y : A) → Q y → y ≡ x)

abbrev pub One : {A : Type 0} → (A → Type 0) → Type 0
One {A} Q = (x : A) × Only Q x

abbrev pub Two : {A : Type 0} → (A → Type 0) → Type 0
Two {A} Q = (x : A) × (y : A) × Q x × Q y × (x ≢ y)

abbrev pub says_none : {S : Type 0} → Outcome S → Bool
says_none (none p a) = true
says_none (one p a w) = false
says_none (several p a f) = false

abbrev pub says_one : {S : Type 0} → Outcome S → Bool
says_one (none p a) = false
says_one (one p a w) = true
says_one (several p a f) = false

abbrev pub says_several : {S : Type 0} → Outcome S → Bool
says_several (none p a) = false
says_several (one p a w) = false
says_several (several p a f) = true

pub record Exactly {S : Type 0} (Q : List S → Type 0) (o : Outcome S) : Type 0 where
  pub none_when : (says_none o ≡ true) ↔ No Q
  pub one_when : (says_one o ≡ true) ↔ One Q
  pub several_when : (says_several o ≡ true) ↔ Two Q
  pub filling : (p a : ℕ) (w : List S) → o ≡ one p a w → Only Q w

abbrev pub pivots_of : {S : Type 0} → Outcome S → ℕ
pivots_of (none p a) = p
pivots_of (one p a w) = p
pivots_of (several p a f) = p

abbrev pub uncounted : {S : Type 0} → Outcome S → Outcome S
uncounted (none p a) = none 0 0
uncounted (one p a w) = one 0 0 w
uncounted (several p a f) = several 0 0 f

abbrev pub Pairwise : {A : Type 0} → (A → A → Type 0) → List A → Type 0
Pairwise R [] = Unit {0}
Pairwise R (x ∷ xs) = AllByRecursion (R x) xs × Pairwise R xs

abbrev pub Different : {A : Type 0} → List A → Type 0
Different xs = Pairwise (λ x y. x ≢ y) xs

pub record Listing {A : Type 0} (Q : A → Type 0) (n : ℕ) : Type 0 where
  pub list : List A
  pub long : length list ≡ n
  pub different : Different list
  pub all : (x : A) → Q x ↔ Has list x

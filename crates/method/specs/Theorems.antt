-- What is said of every search, whatever the policy, the code, the received places and their symbols.
--
--   TellsExactly             the answer is none, one or several exactly when no, just one, at least two codewords agree
--   PivotsTell               no pivot is named exactly when no stopping set lies among the missing places
--   ColumnsNamedInTurn       the pivots are columns named in turn, each where peeling stalls
--   PolicyAltersNoAnswer     with another policy the answer differs in the counts of its work only
--   ShortfallByPlacesAlone   the number of free pivots goes by the code and the missing places alone
--   Doubles                  of symbols with two values, twice as many codewords agree for each free pivot
--   FinalState               what the rows have come to at the end
--   PoliciesName             the policies defined here keep the law of a policy
use Rattle.std.specs.Prelude.{◌≡◌, ◌^◌, Bool, false, ◌⊎◌, ◌↔◌, List, length}
use Rattle.symbols.specs.Kinds.{Kind}
use Rattle.codes.specs.Matrix.{Matrix, Lawful}
use Rattle.method.specs.Sets.{has}
use Rattle.method.specs.Method.{Choice, missing, final, method}
use Rattle.method.specs.Choices.{Naming, plain, first, heaviest, component, replay}
use Rattle.method.specs.Fillings.{Agreeing, No, Exactly, pivots_of, uncounted, says_none, Listing}
use Rattle.method.specs.Stopping.{Stopping, NamedInTurn}
use Rattle.method.specs.Settled.{Settled}

abbrev pub TellsExactly : (S : Type 0) → Kind S → Type 0 → Type 0
TellsExactly S K P =
    (choice : Choice P) → Naming choice
    → (k : Matrix) → Lawful k → (got : List Bool) → length got ≡ k.width → (syms : List S) (p : P)
    → Exactly (Agreeing K k got syms) (method K choice k got syms p)

abbrev pub PivotsTell : (S : Type 0) → Kind S → Type 0 → Type 0
PivotsTell S K P =
    (choice : Choice P) → Naming choice
    → (k : Matrix) → Lawful k → (got : List Bool) → length got ≡ k.width → (syms : List S) (p : P)
    → (pivots_of (method K choice k got syms p) ≡ 0) ↔ No (Stopping k (has (missing got)))

abbrev pub ColumnsNamedInTurn : (S : Type 0) → Kind S → Type 0 → Type 0
ColumnsNamedInTurn S K P =
    (choice : Choice P) → Naming choice
    → (k : Matrix) → Lawful k → (got : List Bool) → length got ≡ k.width → (syms : List S) (p : P)
    → NamedInTurn k (has (missing got)) (final K choice k got syms p).pivots

abbrev pub PolicyAltersNoAnswer : (S : Type 0) → Kind S → (P Q : Type 0) → Type 0
PolicyAltersNoAnswer S K P Q =
    (choice : Choice P) → Naming choice → (other : Choice Q) → Naming other
    → (k : Matrix) → Lawful k → (got : List Bool) → length got ≡ k.width → (syms : List S) (p : P) (q : Q)
    → uncounted (method K choice k got syms p) ≡ uncounted (method K other k got syms q)

abbrev pub ShortfallByPlacesAlone : (S : Type 0) → Kind S → Type 0 → (S' : Type 0) → Kind S' → Type 0 → Type 0
ShortfallByPlacesAlone S K P S' K' P' =
    (choice : Choice P) → Naming choice → (other : Choice P') → Naming other
    → (k : Matrix) → Lawful k → (got : List Bool) → length got ≡ k.width
    → (syms : List S) (p : P) (symbols : List S') (q : P')
    → length (final K choice k got syms p).free ≡ length (final K' other k got symbols q).free

abbrev pub TwoValued : {S : Type 0} → Kind S → Type 0
TwoValued {S} K = (x : S) → (x ≡ K.zero) ⊎ (x ≡ K.unit)

abbrev pub Doubles : (S : Type 0) → Kind S → Type 0 → Type 0
Doubles S K P =
    TwoValued K → (choice : Choice P) → Naming choice
    → (k : Matrix) → Lawful k → (got : List Bool) → length got ≡ k.width → (syms : List S) (p : P)
    → says_none (method K choice k got syms p) ≡ false
    → Listing (Agreeing K k got syms) (2 ^ length (final K choice k got syms p).free)

abbrev pub FinalState : (S : Type 0) → Kind S → Type 0 → Type 0
FinalState S K P =
    (choice : Choice P) → Naming choice
    → (k : Matrix) → Lawful k → (got : List Bool) → length got ≡ k.width → (syms : List S) (p : P)
    → Settled K (missing got) (final K choice k got syms p)

pub record PoliciesName (P : Type 0) : Type 0 where
  pub by_first : Naming {P = P} (plain (λ a u. first a))
  pub by_heaviest : (k : Matrix) → Naming {P = P} (plain (heaviest k))
  pub by_component : (k : Matrix) (below : Choice P) → Naming below → Naming (component k below)
  pub by_replay : (below : Choice P) → Naming below → Naming (replay below)

-- Stopping sets: where peeling stalls, said of the code and the missing places alone. Sets are tests of places.
--
--   JustOne       a row holds just one place of the set
--   NoneAlone     no row of the code does
--   Among         a set lies within another
--   Stopping      a stopping set among the missing places: not empty, and no row holds just one of its places
--   Left          what peeling leaves of a set: the largest part of it of which no row holds just one place
--   NamedInTurn   columns named one after another, each out of what peeling leaves where the ones before are known;
--                 and with all of them known, peeling finds every place
use Rattle.std.specs.Prelude.{◌≡◌, ℕ, Bool, true, not, ◌&&◌, List, [], ◌∷◌, ◌==◌}
use Rattle.codes.specs.Matrix.{Matrix, row_at, member}
use Rattle.method.specs.Fillings.{No}

abbrev pub JustOne : (ℕ → Bool) → List ℕ → Type 0
JustOne set row =
    (c : ℕ) × (member c row ≡ true) × (set c ≡ true) × ((d : ℕ) → member d row ≡ true → set d ≡ true → d ≡ c)

abbrev pub NoneAlone : Matrix → (ℕ → Bool) → Type 0
NoneAlone k set = (r : ℕ) → JustOne set (row_at k r) → ⊥

abbrev pub Among : (ℕ → Bool) → (ℕ → Bool) → Type 0
Among part set = (c : ℕ) → part c ≡ true → set c ≡ true

pub record Stopping (k : Matrix) (missing set : ℕ → Bool) : Type 0 where
  pub some_place : (c : ℕ) × (set c ≡ true)
  pub among : Among set missing
  pub none_alone : NoneAlone k set

pub record Left (k : Matrix) (set left : ℕ → Bool) : Type 0 where
  pub among : Among left set
  pub none_alone : NoneAlone k left
  pub most : (part : ℕ → Bool) → Among part set → NoneAlone k part → Among part left

abbrev pub NamedInTurn : Matrix → (ℕ → Bool) → List ℕ → Type 0
NamedInTurn k set [] = No (Stopping k set)
NamedInTurn k set (c ∷ cs) =
    (left : ℕ → Bool) × Left k set left × (left c ≡ true) × NamedInTurn k (λ d. left d && not (d == c)) cs

-- What the policies name, in the words of weights and graphs.
--
--   Heavy             no active column is heavier, and no lower one as heavy
--   Linked            an edge: an unused row holds two active columns and no third
--   Joined            a chain of edges leads from one column to another
--   Connected         a connected component: active columns joined with one another and with no other
--   size              how many columns a set has
--   Leads             the lowest column of a component, where none is larger and none as large has a lower column
--   HeaviestIsHeavy   what heaviest names is heavy
--   ComponentLeads    what component names leads a component, and the policy below stays as it is; without an edge
--                     that policy is asked
use Rattle.std.specs.Prelude.{◌≡◌, ℕ, ◌≤◌, Bool, true, ◌≢◌, ◌⊎◌, List, length, Some}
use Rattle.codes.specs.Matrix.{Matrix, Lawful, holds}
use Rattle.method.specs.Sets.{has}
use Rattle.method.specs.Method.{Choice}
use Rattle.method.specs.Choices.{count_to, column_weight, heaviest, component}

pub record Heavy (k : Matrix) (a u : List Bool) (c : ℕ) : Type 0 where
  pub active : has a c ≡ true
  pub heaviest : (d : ℕ) → has a d ≡ true → column_weight k u d ≤ column_weight k u c
  pub lowest : (d : ℕ) → has a d ≡ true → column_weight k u d ≡ column_weight k u c → c ≤ d

pub record Linked (k : Matrix) (a u : List Bool) (x y : ℕ) : Type 0 where
  pub row : ℕ
  pub unused : has u row ≡ true
  pub holds_x : holds k row x ≡ true
  pub holds_y : holds k row y ≡ true
  pub active_x : has a x ≡ true
  pub active_y : has a y ≡ true
  pub two : x ≢ y
  pub no_third : (z : ℕ) → holds k row z ≡ true → has a z ≡ true → (z ≡ x) ⊎ (z ≡ y)

pub data Joined (k : Matrix) (a u : List Bool) : ℕ → ℕ → Type 0 where
  same : (x : ℕ) → Joined k a u x x
  link : (x y z : ℕ) → Linked k a u x y → Joined k a u y z → Joined k a u x z

pub record Connected (k : Matrix) (a u : List Bool) (s : ℕ → Bool) : Type 0 where
  pub one : (x : ℕ) × (s x ≡ true)
  pub active : (x : ℕ) → s x ≡ true → has a x ≡ true
  pub joined : (x y : ℕ) → s x ≡ true → s y ≡ true → Joined k a u x y
  pub whole : (x y : ℕ) → s x ≡ true → Joined k a u x y → s y ≡ true

abbrev pub size : List Bool → (ℕ → Bool) → ℕ
size a s = count_to s (length a)

pub record Leads (k : Matrix) (a u : List Bool) (c : ℕ) : Type 0 where
  pub set : ℕ → Bool
  pub component : Connected k a u set
  pub in_it : set c ≡ true
  pub lowest : (d : ℕ) → set d ≡ true → c ≤ d
  pub largest : (t : ℕ → Bool) → Connected k a u t → size a t ≤ size a set
  pub tie : (t : ℕ → Bool) → Connected k a u t → size a t ≡ size a set → (d : ℕ) → t d ≡ true → c ≤ d

abbrev pub HeaviestIsHeavy : Type 0
HeaviestIsHeavy = (k : Matrix) (a u : List Bool) (c : ℕ) → heaviest k a u ≡ Some c → Heavy k a u c

pub record ComponentLeads (P : Type 0) : Type 0 where
  pub leads : (k : Matrix) → Lawful k → (below : Choice P) (p : P) (a u : List Bool) (x y : ℕ) → Linked k a u x y
      → (c : ℕ) × (component k below p a u ≡ (Some c, p)) × Leads k a u c
  pub passes_on : (k : Matrix) → Lawful k → (below : Choice P) (p : P) (a u : List Bool) → ((x y : ℕ) → Linked k a u x y → ⊥)
      → component k below p a u ≡ below p a u

-- Sets of columns as a forest in an array: each column points at itself or at a lower one of its set.
--
--   Falling       each column points at itself or below
--   Labelled      the array stands for a labelling: a column points into its own set, and one that points at itself is the label
--   joined        the labelling in which the sets of x and y are one, under the lower label
--   Lifted        column c is pointed at what stands two steps above it, which is r
--   Kept          the array stands for what it stood for, and what was a root still is
--   Root          r is the root of c's set
use Rattle.std.specs.Prelude.{◌≡◌, ℕ, ◌<◌, ◌≤◌, List, length, slice_set}
use Rattle.method.specs.Choices.{merged}
use Rattle.policies.specs.Numbers.{at}

pub record Falling (up : List ℕ) : Type 0 where
  pub long : length up ≡ 512
  pub falls : (c : ℕ) → c < 512 → at up c ≤ c

pub record Labelled (up : List ℕ) (f : ℕ → ℕ) : Type 0 where
  pub falling : Falling up
  pub keeps : (c : ℕ) → c < 512 → f (at up c) ≡ f c
  pub root : (c : ℕ) → c < 512 → at up c ≡ c → f c ≡ c

abbrev pub joined : (ℕ → ℕ) → ℕ → ℕ → ℕ → ℕ
joined f x y c = merged (f x) (f y) (f c)

pub record Lifted (before up : List ℕ) (c r : ℕ) : Type 0 where
  pub two_above : r ≡ at before (at before c)
  pub pointed : up ≡ slice_set before c r

pub record Kept (before up : List ℕ) : Type 0 where
  pub falling : Falling up
  pub stay : (c : ℕ) → at before c ≡ c → at up c ≡ c
  pub still : (f : ℕ → ℕ) → Labelled before f → Labelled up f

pub record Root (before up : List ℕ) (c r : ℕ) : Type 0 where
  pub low : r ≤ c
  pub own : at up r ≡ r
  pub kept : Kept before up
  pub same : (f : ℕ → ℕ) → Labelled before f → f r ≡ f c

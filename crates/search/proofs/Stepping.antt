-- One step, and steps to the end.
use Rattle.std.proofs.Common.{◌≡◌, ℕ, suc, ◌+◌, ◌-◌, Bool, true, false, not, eqb, List, [], ◌∷◌, map, length, is_some, Some, None, Option, sym, refl, ap, ◌∙◌, subst, arith}
use Rattle.std.proofs.lemmas.Bool.{both_ways, true≢false, false≢true, ne_eqb}
use Rattle.symbols.specs.Kinds.{Kind}
use Rattle.method.specs.Sets.{has, count, lowest}
use Rattle.method.specs.Method.{State, Choice, ready, only_column, row_of, unused, spend, named, step, steps, step_if, step_at, settle, settle_at, holder}
use Rattle.method.specs.Choices.{Names, Naming}
use Rattle.method.proofs.Counts.{count_clear, none_count, count_le}
use Rattle.method.proofs.Marks.{lowest_some, lowest_none}
use Rattle.method.proofs.Loop.{steps_done}
use Rattle.search.specs.declared.elimination.Elimination.{Elimination}
use Rattle.search.specs.Steps.{SameMemory, Moved, Ended}
use Rattle.search.specs.View.{with_policy}

module _ {S P : Type 0} (K : Kind S) (choice : Choice P) (x : State S P) (c : ℕ) (active : has x.active c ≡ true) where
  going : eqb (count x.active) 0 ≡ false
  going = ne_eqb (count x.active) 0 (λ e. omega (arith, count_clear x.active c active))

  -- by the lowest ready row
  pub step_use : (r : ℕ) → lowest (ready x.active) x.rows ≡ Some r → only_column x.active (row_of K x.rows r) ≡ c → step K choice x ≡ spend K r c x
  unfolding step
  step_use r row only = ap (λ b. step_if K choice (not b) x) going ∙ ap (λ o. step_at K choice o x) row ∙ ap (λ d. spend K r d x) only

  -- by the policy
  pub step_name : (p : P) → lowest (ready x.active) x.rows ≡ None → (Some c, p) ≡ choice x.policy x.active (map unused x.rows) → step K choice x ≡ named (Some c) p x
  unfolding step
  step_name p row asked =
      ap (λ b. step_if K choice (not b) x) going ∙ ap (λ o. step_at K choice o x) row ∙ ap (λ (o : Option ℕ × P). named o.0 o.1 x) (sym asked)

-- the lowest active column tells whether there is one
pub none_active : (a : List Bool) (o : Option ℕ) → o ≡ lowest (λ b. b) a → is_some o ≡ false → count a ≡ 0
none_active a None e f = none_count a (lowest_none (λ b. b) false refl a (sym e))
none_active a (Some c) e f = absurd (true≢false f)

-- a column named is active, and one is named where there is an active one
pub named_active : {P : Type 0} (choice : Choice P) → Naming choice → (p p' : P) (a u : List Bool) (c : ℕ) → (Some c, p') ≡ choice p a u → has a c ≡ true
named_active choice law p p' a u c asked = subst (Names a) (sym (ap (λ o. o.0) asked)) (law p a u)

pub never_none : {P : Type 0} (choice : Choice P) → Naming choice → (p p' : P) (a u : List Bool) (o : Option ℕ) → o ≡ lowest (λ b. b) a → is_some o ≡ true
    → ◌≡◌ {A = Option ℕ × P} (None, p') (choice p a u) → ⊥
never_none choice law p p' a u None e f asked = false≢true f
never_none choice law p p' a u (Some c) e f asked =
    both_ways (has a c) (subst (Names a) (sym (ap (λ o. o.0) asked)) (law p a u) c) (lowest_some (λ b. b) false a c (sym e)).0

module _ {S P : Type 0} (K : Kind S) (choice : Choice P) (x y z : State S P) where
  -- so many steps from z, with k to spare, as from a state on the way
  pub steps_again : Moved K choice x y → ((k : ℕ) → steps K choice (k + count x.active) x ≡ steps K choice (k + count z.active) z)
      → (k : ℕ) → steps K choice (k + count y.active) y ≡ steps K choice (k + count z.active) z
  unfolding steps
  steps_again m inv k =
      let e : k + count x.active ≡ suc (k + count y.active) = omega (arith, m.fewer) in
      ap (steps K choice (k + count y.active)) m.is ∙ sym (ap (λ j. steps K choice j x) e) ∙ inv k

  pub steps_all : Ended x y → ((k : ℕ) → steps K choice (k + count x.active) x ≡ steps K choice (k + count z.active) z) → (n : ℕ) → length z.active ≡ n → y ≡ steps K choice n z
  steps_all m inv n l =
      let k = n - count z.active in
      let e : k + count z.active ≡ n = omega (arith, count_le z.active) in
      m.same ∙ sym (steps_done K choice (k + count x.active) x m.idle) ∙ inv k ∙ ap (λ j. steps K choice j z) e

-- the memory stays the same over two steps
pub memory_again : {S : Type 0} {x y z : Elimination S} → SameMemory x y → SameMemory y z → SameMemory x z
memory_again m n = record { words = n.words ∙ m.words; sides = n.sides ∙ m.sides; long = n.long ∙ m.long; high = n.high ∙ m.high }

-- settling goes by no policy
pub settle_policy : {S P Q : Type 0} (K : Kind S) (q : Q) (cs : List ℕ) (s : State S P) → with_policy q (settle K cs s) ≡ settle K cs (with_policy q s)
unfolding settle
settle_policy K q [] s = refl
settle_policy K q (c ∷ cs) s =
    settle_policy K q cs (settle_at K c (lowest (holder c) s.rows) s) ∙ ap (settle K cs) (at (lowest (holder c) s.rows))
  where
    at : (o : Option ℕ) → with_policy q (settle_at K c o s) ≡ settle_at K c o (with_policy q s)
    at None = refl
    at (Some r) = refl

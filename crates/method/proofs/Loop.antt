-- What a loop over the search needs: one step more, a search that has ended, one pivot more.
use Rattle.std.proofs.Common.{◌≡◌, ℕ, zero, suc, not, List, [], ◌∷◌, ◌++◌, refl, ap, ◌∙◌}
use Rattle.std.proofs.lemmas.Bool.{eq-eqb}
use Rattle.symbols.specs.Kinds.{Kind}
use Rattle.method.specs.Sets.{count, lowest}
use Rattle.method.specs.Method.{State, Choice, step, step_if, steps, settle, settle_at, holder}

module _ {S : Type 0} (K : Kind S) {P : Type 0} where
  pub steps_more : (choice : Choice P) (j : ℕ) (s : State S P) → steps K choice (suc j) s ≡ step K choice (steps K choice j s)
  unfolding steps
  steps_more choice zero s = refl
  steps_more choice (suc j) s = steps_more choice j (step K choice s)

  pub step_done : (choice : Choice P) (s : State S P) → count s.active ≡ 0 → step K choice s ≡ s
  unfolding step
  step_done choice s e = ap (λ b. step_if K choice (not b) s) (eq-eqb (count s.active) 0 e)

  pub steps_done : (choice : Choice P) (j : ℕ) (s : State S P) → count s.active ≡ 0 → steps K choice j s ≡ s
  unfolding steps
  steps_done choice zero s e = refl
  steps_done choice (suc j) s e = ap (steps K choice j) (step_done choice s e) ∙ steps_done choice j s e

  pub settle_push : (cs : List ℕ) (c : ℕ) (s : State S P) → settle K (cs ++ c ∷ []) s ≡ settle_at K c (lowest (holder c) (settle K cs s).rows) (settle K cs s)
  unfolding settle
  settle_push [] c s = refl
  settle_push (d ∷ cs) c s = settle_push cs c (settle_at K d (lowest (holder d) s.rows) s)

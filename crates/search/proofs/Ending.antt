-- The state at the end of a search, and what is told of it.
use Rattle.std.proofs.Common.{◌≡◌, ℕ, ◌*◌, ◌<◌, ◌≤◌, Bool, true, false, List, [], ◌∷◌, length, get_or, replicate, is_some, Some, None, Ok, Err, Option, sym, refl, ap, ◌∙◌, ap₂, true≢false, arith}
use mathlib.Core.Bool.{false≢true}
use Rattle.symbols.specs.Kinds.{Kind}
use Rattle.codes.specs.Matrix.{Matrix, height}
use Rattle.method.specs.Sets.{lowest}
use Rattle.method.specs.Method.{Choice, start, steps, final, answer, answer_at, method, clash, filled, row_for}
use Rattle.search.specs.declared.answer.Unfound.TheVariants.{NoCodeword, Several}
use Rattle.search.specs.declared.found.Found.{Found}
use Rattle.search.specs.declared.elimination.Elimination.{Elimination}
use Rattle.search.specs.Answers.{report_of, told}
use Rattle.search.specs.Found.{wiped}
use Rattle.search.specs.Places.{Placed}
use Rattle.search.specs.Searches.{marks_in, outcome, end, Run}
use Rattle.search.specs.Steps.{settled}
use Rattle.search.specs.View.{rows_of, view, bare, with_policy}
use Rattle.search.proofs.Placing.{place_right, place_within}
use Rattle.search.proofs.Wiped.{wiped_whole}

-- started, peeled and settled: the method's last state
pub ended : {S P : Type 0} (K : Kind S) (choice : Matrix → Choice P) (k : Matrix) (received : List Bool) (syms : List S) (p p' : P)
    (e e' : Elimination S)
    → bare K e ≡ start K k (marks_in k received) syms tt
    → view K e' p' ≡ settled K (steps K (choice k) k.width (view K e p))
    → view K e' p' ≡ end K choice k received syms p
unfolding final
ended K choice k received syms p p' e e' begun run = run ∙ ap (λ s. settled K (steps K (choice k) k.width s)) (ap (with_policy p) begun)

told_clash : {S : Type 0} (o : Option ℕ) (p a : ℕ) (fs : List ℕ) (w : List S) → true ≡ is_some o → told (answer_at o p a fs w) ≡ Err (NoCodeword (report_of p a))
told_clash None p a fs w e = absurd (true≢false e)
told_clash (Some r) p a fs w e = refl

told_free : {S : Type 0} (o : Option ℕ) (p a : ℕ) (fs : List ℕ) (w : List S) → false ≡ is_some o → 0 < length fs → told (answer_at o p a fs w) ≡ Err (Several (report_of p a) (length fs))
told_free None p a [] w e h = absurd (omega arith)
told_free None p a (f ∷ fs) w e h = refl
told_free (Some r) p a fs w e h = absurd (false≢true e)

told_one : {S : Type 0} (o : Option ℕ) (p a : ℕ) (fs : List ℕ) (w : List S) → false ≡ is_some o → length fs ≡ 0 → told (answer_at o p a fs w) ≡ Ok (report_of p a)
told_one None p a [] w e h = refl
told_one None p a (f ∷ fs) w e h = absurd (omega arith)
told_one (Some r) p a fs w e h = absurd (false≢true e)

-- what a search in memory of just the size of the code has done, of an elimination to the end and the memory left after it
module _ {S P : Type 0} (K : Kind S) (choice : Matrix → Choice P) (k : Matrix) (received : List Bool) (syms : List S) (p p' : P)
    (e : Elimination S) (is : view K e p' ≡ end K choice k received syms p) (high : length e.sides.now ≡ height k)
    (j : ℕ) (pivots : j ≡ length e.pivots.items) (ws' : List ℕ) (words : ws' ≡ replicate (8 * height k) 0) where
  answers : told (answer K k (marks_in k received) syms (view K e p')) ≡ told (outcome K choice k received syms p)
  unfolding method
  answers = ap (λ s. told (answer K k (marks_in k received) syms s)) is

  whole : List S
  whole = filled K k.width (marks_in k received) syms (rows_of K e)

  cleared : (ss' : List S) → ss' ≡ wiped K.zero (length e.sides.now) e.sides.now → ss' ≡ replicate (height k) K.zero
  cleared ss' z = z ∙ wiped_whole K.zero (length e.sides.now) e.sides.now refl ∙ ap (λ n. replicate n K.zero) high

  pub run_none : true ≡ is_some (lowest (clash K) (rows_of K e)) → (ss' : List S) → ss' ≡ wiped K.zero (length e.sides.now) e.sides.now
      → Run K choice k received syms p p' ws' ss' (Err (NoCodeword (report_of j e.additions)))
  unfolding answer whole
  run_none clashes ss' z = record {
    answer = ap (λ n. Err (NoCodeword (report_of n e.additions))) pivots ∙ sym (told_clash _ (length e.pivots.items) e.additions e.free.items whole clashes) ∙ answers;
    policy = ap (λ s. s.policy) is;
    words = words;
    sides = cleared ss' z;
  }

  pub run_several : (f : ℕ) → f ≡ length e.free.items → 0 < f → false ≡ is_some (lowest (clash K) (rows_of K e)) → (ss' : List S) → ss' ≡ wiped K.zero (length e.sides.now) e.sides.now
      → Run K choice k received syms p p' ws' ss' (Err (Several (report_of j e.additions) f))
  unfolding answer whole
  run_several f is_f some clashes ss' z = record {
    answer = ap₂ (λ n l. Err (Several (report_of n e.additions) l)) pivots is_f ∙ sym (told_free _ (length e.pivots.items) e.additions e.free.items whole clashes (omega (arith, is_f))) ∙ answers;
    policy = ap (λ s. s.policy) is;
    words = words;
    sides = cleared ss' z;
  }

  pub run_one : (l : ℕ) → l ≡ length e.free.items → l ≤ 0 → false ≡ is_some (lowest (clash K) (rows_of K e)) → (f : Found)
      → f.report ≡ report_of j e.additions → Placed e.uses 0 (length e.sides.now) f.rows → Run K choice k received syms p p' ws' e.sides.now (Ok f)
  unfolding answer whole
  run_one l is_l none clashes f told_is placed = record {
    answer = ap Ok (told_is ∙ ap (λ n. report_of n e.additions) pivots) ∙ sym (told_one _ (length e.pivots.items) e.additions e.free.items whole clashes (omega (arith, is_l))) ∙ answers;
    policy = ap (λ s. s.policy) is;
    words = words;
    sides = λ rest c h.
        place_within K c e.sides.now rest e.uses (get_or f.rows c None) (placed.each c h)
        ∙ place_right K c e.active.width e.words.now e.sides.now e.uses (get_or f.rows c None) (placed.each c h)
        ∙ ap (λ s. (row_for K c s.rows).right) is;
  }

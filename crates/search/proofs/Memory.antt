-- A search in memory that is longer than it needs.
use Rattle.std.proofs.Common.{◌≡◌, ℕ, ◌*◌, ◌≤◌, Bool, not, ◌||◌, List, ◌++◌, length, drop, replicate, None, Ok, Err, Result, sym, ap, ◌∙◌, subst, ap₂}
use Rattle.std.proofs.lemmas.List.{drop_at}
use Rattle.std.proofs.lemmas.Bool.{eq-eqb, le-ltb, cond-false}
use Rattle.refusals.specs.Refusals.{first_of}
use Rattle.symbols.specs.Kinds.{Kind}
use Rattle.codes.specs.Matrix.{Matrix, height}
use Rattle.method.specs.Method.{Choice, Row}
use Rattle.search.specs.declared.answer.Unfound.{Unfound}
use Rattle.search.specs.declared.found.Found.{Found}
use Rattle.search.specs.Answers.{causes}
use Rattle.search.specs.Found.{wiped}
use Rattle.search.specs.Searches.{Run, Stand, Left, searched, searched_by, Looked, end}
use Rattle.search.proofs.Wiped.{wiped_some}

-- no cause refuses the search
pub no_cause : (k : Matrix) (n ws ss : ℕ) → k.width ≡ n → 8 * height k ≤ ws → height k ≤ ss → first_of (causes k n ws ss) ≡ None
no_cause k n ws ss e f h =
    cond-false _ _ _ (ap not (eq-eqb k.width n e)) ∙ cond-false _ _ _ (ap₂ ◌||◌ (le-ltb ws (8 * height k) f) (le-ltb ss (height k) h))

-- what is wiped, and what lies behind it
behind : {X : Type 0} (z : X) (m j : ℕ) (all part : List X) → j ≡ m → m ≤ length all → part ≡ replicate m z → part ++ drop j all ≡ wiped z m all
behind z m j all part e l h = ap₂ (λ xs i. xs ++ drop i all) h e ∙ sym (wiped_some z m all l)

left_behind : {S : Type 0} (K : Kind S) (rows : List (Row S)) (m j : ℕ) (ss part : List S) (r : Result Found Unfound) → j ≡ m → m ≤ length ss → length part ≡ j
    → Stand K rows m r part → Left K rows m ss (wiped K.zero m ss) r (part ++ drop j ss)
left_behind K rows m j ss part (Ok f) e l k h = (h (drop j ss), drop_at part (drop j ss) m (k ∙ e) ∙ ap (λ i. drop i ss) e)
left_behind K rows m j ss part (Err x) e l k h = behind K.zero m j ss part e l h

module _ {S P : Type 0} (K : Kind S) (choice : Matrix → Choice P) (k : Matrix) (received : List Bool) (syms : List S) (p p' : P)
    (ws xs : List ℕ) (ss ys : List S) (jw jm : ℕ) (r : Result Found Unfound) where
  pub looked : k.width ≡ length syms → 8 * height k ≤ length ws → height k ≤ length ss → jw ≡ 8 * height k → jm ≡ height k → length ys ≡ jm
      → Run K choice k received syms p p' xs ys r → Looked K choice k received syms p ws ss p' (xs ++ drop jw ws) (ys ++ drop jm ss) r
  looked wide long high e f ly run = record {
    answer = run.answer ∙ sym (ap (λ d. d.answer) begins);
    policy = run.policy ∙ sym (ap (λ d. d.policy) begins);
    words = behind 0 (8 * height k) jw ws xs e long run.words ∙ sym (ap (λ d. d.words) begins);
    sides = subst (λ whole. Left K (end K choice k received syms p).rows (height k) ss whole r (ys ++ drop jm ss)) (sym (ap (λ d. d.sides) begins))
        (left_behind K (end K choice k received syms p).rows (height k) jm ss ys r f high ly run.sides);
  }
    where
      begins : searched K choice k received syms p ws ss ≡ searched_by K choice k received syms p ws ss None
      begins = ap (searched_by K choice k received syms p ws ss) (no_cause k (length syms) (length ws) (length ss) wide long high)

-- A solve that does what the method says goes on with any history.
use Rattle.std.proofs.Common.{◌≡◌, ℕ, ◌≤◌, List, [], ◌∷◌, length, take, Some, None, Option, Result, sym, refl, ◌∙◌, subst, arith, length-take-le, eqb-true}
use borrow.Author.Tests.{not-false}
use Rattle.symbols.specs.Kinds.{Kind, Laws}
use Rattle.codes.specs.Matrix.{Matrix, Lawful}
use Rattle.method.specs.Method.{Choice, Outcome}
use Rattle.method.specs.Method.Outcome.{none, one, several}
use Rattle.method.specs.Choices.{Naming}
use Rattle.method.specs.Fillings.{pivots_of}
use Rattle.method.proofs.Tells.{tells_exactly}
use Rattle.method.proofs.Peeling.{method_pivots, named_in_turn, pivots_tell}
use Rattle.receiver.specs.declared.fault.Fault.{Fault}
use Rattle.receiver.specs.declared.fault.Unsolved.{Unsolved}
use Rattle.receiver.specs.declared.permit.Permit.{Permit}
use Rattle.receiver.specs.Calls.{Search, refusal}
use Rattle.receiver.specs.Calls.Call.{solve}
use Rattle.receiver.specs.History.{pivots}
use Rattle.receiver.specs.History.Event.{refused, searched}
use Rattle.receiver.specs.Blocks.{Block, seen}
use Rattle.receiver.specs.Solves.{search_of, found_of, after_search, answer_of, solve_event, outcome, named, solved, solved_by}
use Rattle.receiver.specs.Stands.{GoesOn}
use Rattle.receiver.proofs.Refusing.{no_cause}
use Rattle.receiver.proofs.Law.{goes_on}
use Rattle.receiver.proofs.Searching.{search_true}

-- the event of a search is what it found
found_event : {S : Type 0} (m : Block S) (s : Search) (cs : List ℕ) (o : Outcome S) → solve_event {S = S} s cs (answer_of (found_of m o)) ≡ searched s cs (found_of m o)
found_event m s cs (none v a) = refl
found_event m s cs (one v a w) = refl
found_event m s cs (several v a f) = refl

found_pivots : {S : Type 0} (m : Block S) (o : Outcome S) → pivots (found_of m o) ≡ pivots_of o
found_pivots m (none v a) = refl
found_pivots m (one v a w) = refl
found_pivots m (several v a f) = refl

module _ {S P : Type 0} {K : Kind S} (L : Laws K) (choice : Matrix → Choice P) (k : Matrix) (lawful : Lawful k) (naming : Naming (choice k)) (m : Block S) where
  -- the search of a block, on any history that stands of it
  searched_on : (p : P) (nw ns : ℕ) → m.n ≤ 512 → length m.received ≡ 512 → refusal K (seen m) (solve (search_of k nw ns)) ≡ None
      → GoesOn K m (searched (search_of k nw ns) (named K choice k m p) (found_of m (outcome K choice k m p)) ∷ []) (after_search m (outcome K choice k m p))
  searched_on p nw ns few flags reached o h st =
      let a = no_cause _ _ _ reached in
      let b = no_cause _ _ _ a.1 in
      let wide : k.width ≡ m.n = eqb-true _ _ (not-false _ b.0) in
      let got = take m.n m.received in
      let syms = take m.n m.table in
      let room : m.n ≤ length m.received = omega (arith, few, flags) in
      let sized : length got ≡ k.width = length-take-le m.n m.received room ∙ sym wide in
      let e = found_pivots m (outcome K choice k m p) in
      let tell = pivots_tell L (choice k) naming k lawful got sized syms p in
      let r = search_true K st.tied (search_of k nw ns) (named K choice k m p) (outcome K choice k m p) reached
      (tells_exactly L (choice k) naming k lawful got sized syms p)
      (e ∙ method_pivots K (choice k) k got syms p)
      (named_in_turn L (choice k) naming k lawful got sized syms p)
      (λ z. tell.0 (sym e ∙ z), λ n. e ∙ tell.1 n) in
      record { truths = (r.0, st.truths); tied = r.1 }

  -- granted, refused, or searched in vain: a solve goes on with any history
  pub solve_goes_on : (p p' : P) (ws ws' : List ℕ) (ss ss' : List S) (r : Result Permit Unsolved) (m' : Block S) → m.n ≤ 512 → length m.received ≡ 512
      → record { answer = r; block = m'; policy = p'; words = ws'; sides = ss' } ≡ solved K choice k m p ws ss
      → GoesOn K m (solve_event (search_of k (length ws) (length ss)) (named K choice k m p) r ∷ []) m'
  solve_goes_on p p' ws ws' ss ss' r m' few flags done =
      subst (λ d. GoesOn K m (solve_event (search_of k (length ws) (length ss)) (named K choice k m p) d.answer ∷ []) d.block) (sym done)
      (go (refusal K (seen m) (solve (search_of k (length ws) (length ss)))) refl)
    where
      go : (o : Option Fault) → refusal K (seen m) (solve (search_of k (length ws) (length ss))) ≡ o
          → GoesOn K m (solve_event (search_of k (length ws) (length ss)) (named K choice k m p) (solved_by K choice k m p o ws ss).answer ∷ []) (solved_by K choice k m p o ws ss).block
      go (Some f) is = goes_on K m m (refused (solve (search_of k (length ws) (length ss))) f) few (is, refl)
      go None is =
          subst (λ e. GoesOn K m (e ∷ []) (after_search m (outcome K choice k m p))) (sym (found_event m (search_of k (length ws) (length ss)) (named K choice k m p) (outcome K choice k m p)))
          (searched_on p (length ws) (length ss) few flags is)

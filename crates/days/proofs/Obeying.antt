-- Each order with its entry: what it makes of a day, from what the block's call ensures.
use Rattle.std.proofs.Common.{◌≡◌, ℕ, true, false, is_some, List, [], ◌∷◌, ◌++◌, length, Some, None, Ok, Err, Option, Result, sym, refl, ap, ◌∙◌, subst, arith}
use borrow.Author.Tests.{clash}
use Rattle.symbols.specs.Kinds.{Kind}
use Rattle.codes.specs.Matrix.{Matrix}
use Rattle.method.specs.Method.{Choice, Outcome}
use Rattle.method.specs.Method.Outcome.{none, one, several}
use Rattle.receiver.specs.declared.block.Out.TheVariants.{Full}
use Rattle.receiver.specs.declared.fault.Fault.{Fault}
use Rattle.receiver.specs.declared.fault.Unsolved.{Unsolved}
use Rattle.receiver.specs.declared.permit.Permit.{Permit}
use Rattle.receiver.specs.Calls.{refusal, is_out}
use Rattle.receiver.specs.Calls.Call.{solve}
use Rattle.receiver.specs.History.{Event, Opened, Truths}
use Rattle.receiver.specs.History.Event.{closed}
use Rattle.receiver.specs.Blocks.{Block, seen, filled, renewed_block}
use Rattle.receiver.specs.Steps.{Step, receive_event, shown_event, renew_event}
use Rattle.receiver.specs.Solves.{search_of, found_of, after_search, answer_of, solve_event, outcome, named, solved, solved_by}
use Rattle.receiver.specs.Stands.{GoesOn}
use Rattle.receiver.proofs.Refusing.{no_cause}
use Rattle.receiver.specs.Holding.{Holding, ClosedUnder}
use Rattle.days.specs.Days.{Now, now_of, permit_of, Obeyed, on, day_on, Answers, AllAnswer, DayTrue}
use Rattle.days.specs.declared.order.Order.{Order}
use Rattle.days.specs.declared.order.Entry.{Entry}
use Rattle.days.specs.declared.order.Order.TheVariants.{Receive, Solve, Show, Close, Renew}
use Rattle.days.specs.declared.order.Entry.TheVariants.{Received, Solved, Shown, Closed, Renewed, NoPermit}

module _ {S P : Type 0} (K : Kind S) (choice : Matrix → Choice P) (k : Matrix) (nw ns : ℕ) where
  pub received : (m m' : Block S) (b s p : ℕ) (x : S) (r : Result (Unit {0}) Fault) (st : P) (q : Option Permit) → Step K m (receive_event b s p x r) m' → GoesOn K m (receive_event b s p x r ∷ []) m'
      → Obeyed K choice k nw ns m m' st st q q (Receive b s p x) (Received r)
  received m m' b s p x (Ok u) st q step goes = record {
    events = receive_event b s p x (Ok u) ∷ [];
    told = λ h. ap (λ n. Some (now_of n st q (receive_event b s p x (Ok u) ∷ h))) (sym step.1);
    answers = λ h. tt;
    history = goes;
    holding = λ h. subst (λ n. Holding n q) (sym step.1) (kept q h);
  }
    where
      kept : (q : Option Permit) → Holding m q → Holding (filled p x m) q
      kept None h = h
      kept (Some a) h = h
  received m m' b s p x (Err f) st q step goes = record {
    events = receive_event {U = Unit {0}} b s p x (Err f) ∷ [];
    told = λ h. ap (λ n. Some (now_of n st q (receive_event {U = Unit {0}} b s p x (Err f) ∷ h))) (sym step.1);
    answers = λ h. tt;
    history = goes;
    holding = λ h. subst (λ n. Holding n q) (sym step.1) h;
  }

  pub renewed : (m m' : Block S) (s : ℕ) (r : Result (Unit {0}) Fault) (st : P) (q : Option Permit) → Step K m (renew_event s r) m' → GoesOn K m (renew_event s r ∷ []) m'
      → Obeyed K choice k nw ns m m' st st q q (Renew s) (Renewed r)
  renewed m m' s (Ok u) st q step goes = record {
    events = renew_event s (Ok u) ∷ [];
    told = λ h. ap (λ n. Some (now_of n st q (renew_event s (Ok u) ∷ h))) (sym step.1);
    answers = λ h. tt;
    history = goes;
    holding = λ h. subst (λ n. Holding n q) (sym step.1) (kept q (no_cause _ _ _ step.0).0 h);
  }
    where
      kept : (q : Option Permit) → is_out m.out ≡ false → Holding m q → Holding (renewed_block K s m) q
      kept None e h = h
      kept (Some a) e h = absurd (clash (sym e ∙ ap is_out h.0))
  renewed m m' s (Err f) st q step goes = record {
    events = renew_event {U = Unit {0}} s (Err f) ∷ [];
    told = λ h. ap (λ n. Some (now_of n st q (renew_event {U = Unit {0}} s (Err f) ∷ h))) (sym step.1);
    answers = λ h. tt;
    history = goes;
    holding = λ h. subst (λ n. Holding n q) (sym step.1) h;
  }

  -- a close under the permit in hand, and where none is
  pub shut : (m m' : Block S) (q : Option Permit) (st : P) → is_some q ≡ true → ClosedUnder K m q m' → Obeyed K choice k nw ns m m' st st q None Close Closed
  shut m m' None st e done = cc
  shut m m' (Some q) st e done = record {
    events = closed q ∷ [];
    told = λ h. ap (λ n. Some (now_of n st None (closed q ∷ h))) (sym done.0.1);
    answers = λ h. tt;
    history = done.1;
    holding = λ h. ap (λ n. n.out) done.0.1;
  }

  pub not_shut : (m m' : Block S) (q : Option Permit) (st : P) → is_some q ≡ false → ClosedUnder K m q m' → Obeyed K choice k nw ns m m' st st q None Close NoPermit
  not_shut m m' None st e same = subst (λ n. Obeyed K choice k nw ns m n st st None None Close NoPermit) (sym same) (record { events = []; told = λ h. refl; answers = λ h. tt; history = λ o h s. s; holding = λ h. h })
  not_shut m m' (Some q) st e done = cc

-- what a solve leaves of the block and the policy does not go by what its memory held
module _ {S P : Type 0} (K : Kind S) (choice : Matrix → Choice P) (k : Matrix) (m : Block S) (p : P) where
  same_block : (o : Option Fault) (ws : List ℕ) (ss : List S) → (solved_by K choice k m p o ws ss).block ≡ (solved_by K choice k m p o [] []).block
  same_block None ws ss = refl
  same_block (Some f) ws ss = refl

  same_policy : (o : Option Fault) (ws : List ℕ) (ss : List S) → (solved_by K choice k m p o ws ss).policy ≡ (solved_by K choice k m p o [] []).policy
  same_policy None ws ss = refl
  same_policy (Some f) ws ss = refl

  same_answer : (o : Option Fault) (ws : List ℕ) (ss : List S) → (solved_by K choice k m p o ws ss).answer ≡ (solved_by K choice k m p o [] []).answer
  same_answer None ws ss = refl
  same_answer (Some f) ws ss = refl

  -- a permit bears the block's numbers, and is out
  permitted : (o : Option Fault) (ws : List ℕ) (ss : List S) (q : Permit) → ◌≡◌ {A = Result Permit Unsolved} (Ok q) (solved_by K choice k m p o ws ss).answer
      → (q ≡ permit_of m q.report) × ((solved_by K choice k m p o ws ss).block.out ≡ Full) × ((solved_by K choice k m p o ws ss).block.number ≡ m.number) × ((solved_by K choice k m p o ws ss).block.stamp ≡ m.stamp)
  permitted (Some f) ws ss q e = cc
  permitted None ws ss q e = go (outcome K choice k m p) e
    where
      go : (o : Outcome S) → ◌≡◌ {A = Result Permit Unsolved} (Ok q) (answer_of (found_of m o))
          → (q ≡ permit_of m q.report) × ((after_search m o).out ≡ Full) × ((after_search m o).number ≡ m.number) × ((after_search m o).stamp ≡ m.stamp)
      go (none v a) e = cc
      go (one v a w) e =
          let same : q ≡ permit_of m _ = ap (λ r. elim r [ Ok a ↦ a | Err u ↦ q ]) e in
          (same ∙ sym (ap (λ a. permit_of m a.report) same), refl, refl, refl)
      go (several v a f) e = cc

  -- without a permit the block is as it was
  unpermitted : (o : Option Fault) (ws : List ℕ) (ss : List S) (u : Unsolved) → ◌≡◌ {A = Result Permit Unsolved} (Err u) (solved_by K choice k m p o ws ss).answer → (solved_by K choice k m p o ws ss).block ≡ m
  unpermitted (Some f) ws ss u e = refl
  unpermitted None ws ss u e = go (outcome K choice k m p) e
    where
      go : (o : Outcome S) → ◌≡◌ {A = Result Permit Unsolved} (Err u) (answer_of (found_of m o)) → after_search m o ≡ m
      go (none v a) e = refl
      go (one v a w) e = cc
      go (several v a f) e = refl

module _ {S P : Type 0} (K : Kind S) (choice : Matrix → Choice P) (k : Matrix) (m m' : Block S) (p p' : P) (ws ws' : List ℕ) (ss ss' : List S) where
  pub solved_with : (q : Permit) (held : Option Permit) → record { answer = Ok q; block = m'; policy = p'; words = ws'; sides = ss' } ≡ solved K choice k m p ws ss
      → GoesOn K m (solve_event (search_of k (length ws) (length ss)) (named K choice k m p) (Ok q) ∷ []) m'
      → Obeyed K choice k (length ws) (length ss) m m' p p' held (Some q) Solve (Solved (Ok q.report))
  solved_with q held done goes =
      let o = refusal K (seen m) (solve (search_of k (length ws) (length ss))) in
      let block = ap (λ d. d.block) done in
      let policy = ap (λ d. d.policy) done in
      let t = permitted K choice k m p o ws ss q (ap (λ d. d.answer) done) in
      let block' = sym (block ∙ same_block K choice k m p o ws ss) in
      let policy' = sym (policy ∙ same_policy K choice k m p o ws ss) in
      let permit = sym t.0 in
      record {
        events = solve_event (search_of k (length ws) (length ss)) (named K choice k m p) (Ok q) ∷ [];
        told = λ h i. Some (now_of (block' i) (policy' i) (Some (permit i)) (solve_event (search_of k (length ws) (length ss)) (named K choice k m p) (Ok (permit i)) ∷ h));
        answers = λ h. ap (λ a. Ok a) permit ∙ (ap (λ d. d.answer) done ∙ same_answer K choice k m p o ws ss);
        history = goes;
        holding = λ h. (
          ap (λ b. b.out) block ∙ t.1,
          ap (λ a. a.number) t.0 ∙ sym (ap (λ b. b.number) block ∙ t.2),
          ap (λ a. a.stamp) t.0 ∙ sym (ap (λ b. b.stamp) block ∙ t.3),
        );
      }

  pub solved_without : (u : Unsolved) (held : Option Permit) → record { answer = Err u; block = m'; policy = p'; words = ws'; sides = ss' } ≡ solved K choice k m p ws ss
      → GoesOn K m (solve_event (search_of k (length ws) (length ss)) (named K choice k m p) (Err u) ∷ []) m'
      → Obeyed K choice k (length ws) (length ss) m m' p p' held held Solve (Solved (Err u))
  solved_without u held done goes =
      let o = refusal K (seen m) (solve (search_of k (length ws) (length ss))) in
      let block = ap (λ d. d.block) done in
      let policy = ap (λ d. d.policy) done in
      let block' = sym (block ∙ same_block K choice k m p o ws ss) in
      let policy' = sym (policy ∙ same_policy K choice k m p o ws ss) in
      let same = block ∙ unpermitted K choice k m p o ws ss u (ap (λ d. d.answer) done) in
      record {
        events = solve_event (search_of k (length ws) (length ss)) (named K choice k m p) (Err u) ∷ [];
        told = λ h i. Some (now_of (block' i) (policy' i) held (solve_event (search_of k (length ws) (length ss)) (named K choice k m p) (Err u) ∷ h));
        answers = λ h. ap (λ d. d.answer) done ∙ same_answer K choice k m p o ws ss;
        history = goes;
        holding = λ h. subst (λ n. Holding n held) (sym same) h;
      }

-- a show under the permit in hand
module _ {S P : Type 0} (K : Kind S) (choice : Matrix → Choice P) (k : Matrix) (nw ns : ℕ) (m : Block S) (st : P) where
  pub shown : (q : Option Permit) (a : Permit) (p : ℕ) (r : Result S Fault) → q ≡ Some a → Step K m (shown_event a p r) m → GoesOn K m (shown_event a p r ∷ []) m
      → Obeyed K choice k nw ns m m st st q q (Show p) (Shown r)
  shown q a p r is step goes =
      subst (λ q. Obeyed K choice k nw ns m m st st q q (Show p) (Shown r)) (sym is)
      (record { events = shown_event a p r ∷ []; told = λ h. refl; answers = λ h. tt; history = goes; holding = λ h. h })

-- a show without a permit leaves everything as it was
module _ {S P : Type 0} (K : Kind S) (choice : Matrix → Choice P) (k : Matrix) (nw ns : ℕ) (m : Block S) (p : P) where
  pub not_shown : (q : Option Permit) (place : ℕ) → q ≡ None → Obeyed K choice k nw ns m m p p q q (Show place) NoPermit
  not_shown None place e = record { events = []; told = λ h. refl; answers = λ h. tt; history = λ o h s. s; holding = λ h. h }
  not_shown (Some q) place e = cc

-- one order and its entry more
module _ {S P : Type 0} (K : Kind S) (choice : Matrix → Choice P) (k : Matrix) (nw ns : ℕ) where
  pub day_more : (x : Option (Now S P)) (os : List (Order S)) (es : List (Entry S)) (o : Order S) (e : Entry S) (y z : Now S P) → day_on K choice k nw ns x os es ≡ Some y → on K choice k nw ns y o e ≡ Some z
      → day_on K choice k nw ns x (os ++ o ∷ []) (es ++ e ∷ []) ≡ Some z
  day_more None os es o e y z h g = let c : ◌≡◌ {A = ℕ} 0 1 = cc in absurd (omega arith)
  day_more (Some x) [] [] o e y z h g = ap (λ n. day_on K choice k nw ns n [] []) (ap (λ n. on K choice k nw ns (elim n [ Some v ↦ v | None ↦ x ]) o e) h ∙ g)
  day_more (Some x) [] (f ∷ es) o e y z h g = let c : ◌≡◌ {A = ℕ} 0 1 = cc in absurd (omega arith)
  day_more (Some x) (q ∷ os) [] o e y z h g = let c : ◌≡◌ {A = ℕ} 0 1 = cc in absurd (omega arith)
  day_more (Some x) (q ∷ os) (f ∷ es) o e y z h g = day_more (on K choice k nw ns x q f) os es o e y z h g

  pub all_more : (x : Option (Now S P)) (os : List (Order S)) (es : List (Entry S)) (o : Order S) (e : Entry S) (y : Now S P) → AllAnswer K choice k nw ns x os es → day_on K choice k nw ns x os es ≡ Some y → Answers K choice k nw ns y o e
      → AllAnswer K choice k nw ns x (os ++ o ∷ []) (es ++ e ∷ [])
  all_more None os es o e y a h g = let c : ◌≡◌ {A = ℕ} 0 1 = cc in absurd (omega arith)
  all_more (Some x) [] [] o e y a h g = (subst (λ n. Answers K choice k nw ns n o e) (sym (ap (λ n. elim n [ Some v ↦ v | None ↦ x ]) h)) g, tt)
  all_more (Some x) [] (f ∷ es) o e y a h g = let c : ◌≡◌ {A = ℕ} 0 1 = cc in absurd (omega arith)
  all_more (Some x) (q ∷ os) [] o e y a h g = let c : ◌≡◌ {A = ℕ} 0 1 = cc in absurd (omega arith)
  all_more (Some x) (q ∷ os) (f ∷ es) o e y a h g = (a.0, all_more (on K choice k nw ns x q f) os es o e y a.1 h g)

  -- a day that was told whole is true where its history stands
  pub day_true : (o : Opened) (x : Option (Now S P)) (m : Block S) (p : P) (q : Option Permit) (h : List (Event S)) → x ≡ Some (now_of m p q h) → Truths K o h → DayTrue K o x
  day_true o x m p q h is t = subst (DayTrue K o) (sym is) t

-- A day of calls on one block, and the history that its orders and its log tell.
--
--   Now           between two calls: the block's values, the policy's state, the permit in hand, the events so far
--   left_by       what a solve leaves, whatever its memory held
--   on            what an order and its entry make of it; none where the two do not belong together
--   day_on        what the orders of a day and the entries of its log make of it
--   DayTrue       one entry for each order, each belonging to it, and every event that they tell was true when it came
--   Answers, AllAnswer    the entry of each solve is what the method answers: its counts and its shortfall too
--   Obeyed        what obeying one order does
--   Cleared       memory as it was, or with its first m elements zero
use Rattle.std.specs.Prelude.{◌≡◌, ◌⊎◌, ℕ, List, [], ◌∷◌, ◌++◌, Some, None, Ok, Err, Option, Result}
use Rattle.symbols.specs.Kinds.{Kind}
use Rattle.codes.specs.Matrix.{Matrix}
use Rattle.method.specs.Method.{Choice}
use Rattle.search.specs.declared.answer.Report.{Report}
use Rattle.search.specs.Found.{wiped}
use Rattle.receiver.specs.declared.fault.Unsolved.{Unsolved}
use Rattle.receiver.specs.declared.permit.Permit.{Permit}
use Rattle.receiver.specs.Calls.{refusal}
use Rattle.receiver.specs.Calls.Call.{solve}
use Rattle.receiver.specs.History.{Event, Opened, Truths}
use Rattle.receiver.specs.History.Event.{closed}
use Rattle.receiver.specs.Blocks.{Block, seen, filled, closed_block, renewed_block}
use Rattle.receiver.specs.Holding.{Holding}
use Rattle.receiver.specs.Steps.{receive_event, shown_event, renew_event}
use Rattle.receiver.specs.Solves.{Done, search_of, solve_event, named, solved_by}
use Rattle.receiver.specs.Stands.{GoesOn}
use Rattle.days.specs.declared.order.Order.{Order}
use Rattle.days.specs.declared.order.Order.TheVariants.{Receive, Solve, Show, Close, Renew}
use Rattle.days.specs.declared.order.Entry.{Entry}
use Rattle.days.specs.declared.order.Entry.TheVariants.{Received, Solved, Shown, Closed, Renewed, NoPermit}

pub record Now (S P : Type 0) : Type 0 where
  pub block : Block S
  pub policy : P
  pub held : Option Permit
  pub history : List (Event S)

-- granted, the block that the call makes; refused, the block as it was
abbrev pub by_answer : {S U F : Type 0} → Result U F → Block S → Block S → Block S
by_answer (Ok u) new old = new
by_answer (Err f) new old = old

-- the permit that a report stands for, with the block's numbers
abbrev pub permit_of : {S : Type 0} → Block S → Report → Permit
permit_of m r = record { number = m.number; stamp = m.stamp; report = r }

abbrev pub answer_with : {S : Type 0} → Block S → Result Report Unsolved → Result Permit Unsolved
answer_with m (Ok r) = Ok (permit_of m r)
answer_with m (Err u) = Err u

-- the permit in hand after a solve
abbrev pub in_hand : {S : Type 0} → Block S → Result Report Unsolved → Option Permit → Option Permit
in_hand m (Ok r) q = Some (permit_of m r)
in_hand m (Err u) q = q

module _ {S P : Type 0} (K : Kind S) (choice : Matrix → Choice P) (k : Matrix) (words symbols : ℕ) where
  abbrev pub moved : Now S P → Event S → Block S → P → Option Permit → Option (Now S P)
  moved x e m p q = Some (record { block = m; policy = p; held = q; history = e ∷ x.history })

  abbrev pub on_receive : Now S P → (number stamp place : ℕ) → S → Entry S → Option (Now S P)
  on_receive x b s p y (Received r) = moved x (receive_event b s p y r) (by_answer r (filled p y x.block) x.block) x.policy x.held
  on_receive x b s p y (Solved r) = None
  on_receive x b s p y (Shown r) = None
  on_receive x b s p y Closed = None
  on_receive x b s p y (Renewed r) = None
  on_receive x b s p y NoPermit = None

  -- what a solve leaves, whatever its memory held
  abbrev pub left_by : Now S P → Done S P
  left_by x = solved_by K choice k x.block x.policy (refusal K (seen x.block) (solve (search_of k words symbols))) [] []

  abbrev pub on_solve : Now S P → Entry S → Option (Now S P)
  on_solve x (Received r) = None
  on_solve x (Solved r) =
      let after = left_by x in
      moved x (solve_event (search_of k words symbols) (named K choice k x.block x.policy) (answer_with x.block r)) after.block after.policy (in_hand x.block r x.held)
  on_solve x (Shown r) = None
  on_solve x Closed = None
  on_solve x (Renewed r) = None
  on_solve x NoPermit = None

  abbrev pub on_show : Now S P → Option Permit → (place : ℕ) → Entry S → Option (Now S P)
  on_show x (Some q) p (Shown r) = moved x (shown_event q p r) x.block x.policy x.held
  on_show x (Some q) p (Received r) = None
  on_show x (Some q) p (Solved r) = None
  on_show x (Some q) p Closed = None
  on_show x (Some q) p (Renewed r) = None
  on_show x (Some q) p NoPermit = None
  on_show x None p NoPermit = Some x
  on_show x None p (Shown r) = None
  on_show x None p (Received r) = None
  on_show x None p (Solved r) = None
  on_show x None p Closed = None
  on_show x None p (Renewed r) = None

  abbrev pub on_close : Now S P → Option Permit → Entry S → Option (Now S P)
  on_close x (Some q) Closed = moved x (closed q) (closed_block K x.block) x.policy None
  on_close x (Some q) (Shown r) = None
  on_close x (Some q) (Received r) = None
  on_close x (Some q) (Solved r) = None
  on_close x (Some q) (Renewed r) = None
  on_close x (Some q) NoPermit = None
  on_close x None NoPermit = Some x
  on_close x None Closed = None
  on_close x None (Shown r) = None
  on_close x None (Received r) = None
  on_close x None (Solved r) = None
  on_close x None (Renewed r) = None

  abbrev pub on_renew : Now S P → (stamp : ℕ) → Entry S → Option (Now S P)
  on_renew x s (Received r) = None
  on_renew x s (Solved r) = None
  on_renew x s (Shown r) = None
  on_renew x s Closed = None
  on_renew x s (Renewed r) = moved x (renew_event s r) (by_answer r (renewed_block K s x.block) x.block) x.policy x.held
  on_renew x s NoPermit = None

  abbrev pub on : Now S P → Order S → Entry S → Option (Now S P)
  on x (Receive b s p y) e = on_receive x b s p y e
  on x Solve e = on_solve x e
  on x (Show p) e = on_show x x.held p e
  on x Close e = on_close x x.held e
  on x (Renew s) e = on_renew x s e

  abbrev pub day_on : Option (Now S P) → List (Order S) → List (Entry S) → Option (Now S P)
  day_on None os es = None
  day_on (Some x) [] [] = Some x
  day_on (Some x) [] (e ∷ es) = None
  day_on (Some x) (o ∷ os) [] = None
  day_on (Some x) (o ∷ os) (e ∷ es) = day_on (on x o e) os es

  abbrev pub SolveAnswers : Now S P → Entry S → Type 0
  SolveAnswers x (Received r) = Unit {0}
  SolveAnswers x (Solved r) = answer_with x.block r ≡ (left_by x).answer
  SolveAnswers x (Shown r) = Unit {0}
  SolveAnswers x Closed = Unit {0}
  SolveAnswers x (Renewed r) = Unit {0}
  SolveAnswers x NoPermit = Unit {0}

  abbrev pub Answers : Now S P → Order S → Entry S → Type 0
  Answers x (Receive b s p y) e = Unit {0}
  Answers x Solve e = SolveAnswers x e
  Answers x (Show p) e = Unit {0}
  Answers x Close e = Unit {0}
  Answers x (Renew s) e = Unit {0}

  abbrev pub AnswersAt : Option (Now S P) → Order S → Entry S → Type 0
  AnswersAt None o e = Unit {0}
  AnswersAt (Some x) o e = Answers x o e

  abbrev pub on_at : Option (Now S P) → Order S → Entry S → Option (Now S P)
  on_at None o e = None
  on_at (Some x) o e = on x o e

  abbrev pub AllAnswer : Option (Now S P) → List (Order S) → List (Entry S) → Type 0
  AllAnswer n [] es = Unit {0}
  AllAnswer n (o ∷ os) [] = Unit {0}
  AllAnswer n (o ∷ os) (e ∷ es) = AnswersAt n o e × AllAnswer (on_at n o e) os es

abbrev pub DayTrue : {S P : Type 0} → Kind S → Opened → Option (Now S P) → Type 0
DayTrue K o None = ⊥
DayTrue K o (Some x) = Truths K o x.history

abbrev pub now_of : {S P : Type 0} → Block S → P → Option Permit → List (Event S) → Now S P
now_of m p q h = record { block = m; policy = p; held = q; history = h }

-- what obeying an order does: its entry belongs to it, the promise over histories goes on, and the permit in hand stays the block's
pub record Obeyed {S P : Type 0} (K : Kind S) (choice : Matrix → Choice P) (k : Matrix) (words symbols : ℕ) (m m' : Block S) (p p' : P) (held held' : Option Permit) (order : Order S) (entry : Entry S) : Type 0 where
  pub events : List (Event S)
  pub told : (h : List (Event S)) → on K choice k words symbols (now_of m p held h) order entry ≡ Some (now_of m' p' held' (events ++ h))
  pub answers : (h : List (Event S)) → Answers K choice k words symbols (now_of m p held h) order entry
  pub history : GoesOn K m events m'
  pub holding : Holding m held → Holding m' held'

-- memory as it was, or with its first m elements zero
abbrev pub Cleared : {X : Type 0} → X → ℕ → List X → List X → Type 0
Cleared z m xs ys = (ys ≡ xs) ⊎ (ys ≡ wiped z m xs)

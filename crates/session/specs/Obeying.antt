-- What each call of a session and its entry in the log make of a block's side.
--
--   permit_of, answer_with, in_hand     an entry as the block's answer
--   Moves         a call that the block answers: its step, and its event in the history
--   Carries       packets as bytes
--   Solves        a solve with one of the session's codes
--   Shows, Closes, ClosesOther       under the permit in a hand
--   ShownUnder, ShownIn, CloseRefused, FreeFor, solved_entry, hand_after    what the parts of a call do
--   is_open       whether a call is an open
--   Setting       what a session is held with: its symbols, its codes and its working memory
--   Acts          what a call on an opened block makes of its side; an entry that does not belong to it contradicts it
--   Acted         what making a call does: its entry belongs to it, and the promise over histories goes on
use Rattle.std.specs.Prelude.{◌≡◌, ℕ, Bool, true, false, ◌&&◌, ◌||◌, List, [], ◌∷◌, Some, None, Ok, Err, vec_items, MatchBool, Option, Result, ◌==◌, nat_lt}
use Rattle.symbols.specs.Kinds.{Kind}
use Rattle.codes.specs.Matrix.{Matrix}
use Rattle.packets.specs.Figure.{percent}
use Rattle.piles.specs.declared.pile.Pile.{Pile}
use Rattle.piles.specs.declared.policy.PolicyName.{PolicyName}
use Rattle.search.specs.declared.answer.Report.{Report}
use Rattle.receiver.specs.declared.fault.Fault.{Fault}
use Rattle.receiver.specs.declared.fault.Fault.TheVariants.{NotItsPermit}
use Rattle.receiver.specs.declared.fault.Unsolved.{Unsolved}
use Rattle.receiver.specs.declared.permit.Permit.{Permit}
use Rattle.receiver.specs.Calls.Call.{close}
use Rattle.receiver.specs.History.{Event, Opened}
use Rattle.receiver.specs.History.Event.{refused, closed}
use Rattle.receiver.specs.Blocks.{Block, received_count, mark_at}
use Rattle.receiver.specs.Solves.{search_of, solve_event}
use Rattle.receiver.specs.Stands.{Stands, GoesOn}
use Rattle.receiver.specs.Steps.{Step, receive_event, shown_event, renew_event}
use Rattle.session.specs.Carrying.{Carriage}
use Rattle.receiver.specs.Holding.{Holding}
use Rattle.session.specs.Sides.{Side, Day, side, moved, Memory, coded, solve_by}
use Rattle.session.specs.declared.order.Hand.{Hand}
use Rattle.session.specs.declared.order.Hand.TheVariants.{Own, Other}
use Rattle.session.specs.declared.order.Order.{Order}
use Rattle.session.specs.declared.order.Order.TheVariants as order
use Rattle.session.specs.declared.order.Entry.{Entry}
use Rattle.session.specs.declared.order.Entry.TheVariants as entry

-- the permit that a report stands for, with the block's numbers
abbrev pub permit_of : {S : Type 0} → Block S → Report → Permit
permit_of m r = record { number = m.number; stamp = m.stamp; report = r }

abbrev pub answer_with : {S : Type 0} → Block S → Result Report Unsolved → Result Permit Unsolved
answer_with m (Ok r) = Ok (permit_of m r)
answer_with m (Err u) = Err u

-- the permit in hand after a solve
abbrev pub in_hand : {S : Type 0} → Block S → Result Report Unsolved → Option Permit → Option Permit
in_hand m (Ok r) q = Some (permit_of m r)
in_hand m (Err u) q = q

-- whether a permit has the numbers of the one in hand
abbrev pub alike : Option Permit → Permit → Bool
alike None q = false
alike (Some p) q = p.number == q.number && p.stamp == q.stamp

abbrev pub in_which : Hand → Option Permit → Option Permit → Option Permit
in_which Own own other = own
in_which Other own other = other

-- packets as bytes are for cells alone
abbrev pub or_not : {S R : Type 0} → (R → Entry S) → Option R → Entry S
or_not entered None = entry.NotCells
or_not entered (Some r) = entered r

module _ {S : Type 0} (K : Kind S) where
  -- the block answers, and its event is the newest of its history
  abbrev pub Moves : {R : Type 0} → (R → Entry S) → (R → Event S) → Side S → Entry S → Side S → Type 0
  Moves {R} entered event x e z =
      (r : R) × (m : Block S) × (e ≡ entered r) × Step K x.block (event r) m × (z ≡ moved x m x.held (event r ∷ x.history))

  -- packets as bytes, by what the symbols do with them and tell of them
  abbrev pub Carries : {R : Type 0} → (R → Entry S) → (Block S → Option R → Block S → Type 0) → (Option R → List (Event S) → List (Event S)) → Side S → Entry S → Side S → Type 0
  Carries {R} entered does tells x e z =
      (r : Option R) × (m : Block S) × (e ≡ or_not entered r) × does x.block r m × (z ≡ moved x m x.held (tells r x.history))

  abbrev pub SolvesWith : Option Matrix → PolicyName → (words symbols : ℕ) → Side S → Entry S → Side S → Type 0
  SolvesWith None p ws ss x e z = (e ≡ entry.NoCode) × (z ≡ x)
  SolvesWith (Some k) p ws ss x e z =
      (r : Result Report Unsolved) × (m : Block S) × (e ≡ entry.Solved r)
      × ((solve_by K k p ws ss x.block).answer ≡ answer_with x.block r)
      × ((solve_by K k p ws ss x.block).block ≡ m)
      × (z ≡ moved x m (in_hand x.block r x.held) (solve_event (search_of k ws ss) (solve_by K k p ws ss x.block).named (answer_with x.block r) ∷ x.history))

  abbrev pub Solves : Memory → Option Matrix → PolicyName → (words symbols : ℕ) → Side S → Entry S → Side S → Type 0
  Solves memory k p ws ss x e z =
      MatchBool (nat_lt memory.words ws || nat_lt memory.symbols ss) ((e ≡ entry.NoMemory) × (z ≡ x)) (SolvesWith k p ws ss x e z)

  abbrev pub Shows : Option Permit → (place : ℕ) → Side S → Entry S → Side S → Type 0
  Shows None p x e z = (e ≡ entry.NoPermit) × (z ≡ x)
  Shows (Some q) p x e z = Moves entry.Shown (λ (r : Result S Fault). shown_event q p r) x e z

  -- under the permit in the block's own hand, which is the block's
  abbrev pub Closes : Option Permit → Side S → Entry S → Side S → Type 0
  Closes None x e z = (e ≡ entry.NoPermit) × (z ≡ x)
  Closes (Some q) x e z =
      (m : Block S) × (e ≡ entry.Closed (Ok tt)) × Step K x.block (closed q) m × (z ≡ moved x m None (closed q ∷ x.history))

  abbrev pub RefusesClose : Permit → Side S → Entry S → Side S → Type 0
  RefusesClose q x e z =
      (m : Block S) × (e ≡ entry.Closed (Err (NotItsPermit x.block.stamp))) × Step K x.block (refused (close q) (NotItsPermit x.block.stamp)) m
      × (z ≡ moved x m x.held (refused (close q) (NotItsPermit x.block.stamp) ∷ x.history))

  -- under the permit in the other block's hand, which stays there
  abbrev pub ClosesOther : Option Permit → Side S → Entry S → Side S → Type 0
  ClosesOther None x e z = (e ≡ entry.NoPermit) × (z ≡ x)
  ClosesOther (Some q) x e z = MatchBool (alike x.held q) ((e ≡ entry.OtherBlocks) × (z ≡ x)) (RefusesClose q x e z)

  abbrev pub ClosesUnder : Hand → Option Permit → Side S → Entry S → Side S → Type 0
  ClosesUnder Own other x e z = Closes x.held x e z
  ClosesUnder Other other x e z = ClosesOther other x e z

-- what the parts of a call do: a show under a permit, or the one in a hand, and a close that gives the permit back
module _ {S : Type 0} (K : Kind S) where
  pub record ShownUnder (m : Block S) (q : Permit) (p : ℕ) (e : Entry S) : Type 0 where
    pub answer : Result S Fault
    pub entered : e ≡ entry.Shown answer
    pub step : Step K m (shown_event q p answer) m
    pub history : GoesOn K m (shown_event q p answer ∷ []) m

  abbrev pub ShownIn : Block S → Option Permit → ℕ → Entry S → Type 0
  ShownIn m None p e = e ≡ entry.NoPermit
  ShownIn m (Some q) p e = ShownUnder m q p e

  pub record CloseRefused (m : Block S) (q : Permit) (m' : Block S) (e : Entry S) (back : Permit) : Type 0 where
    pub entered : e ≡ entry.Closed (Err (NotItsPermit m.stamp))
    pub step : Step K m (refused (close q) (NotItsPermit m.stamp)) m'
    pub history : GoesOn K m (refused (close q) (NotItsPermit m.stamp) ∷ []) m'
    pub given_back : back ≡ q

-- no permit is in hand where one was given
abbrev pub FreeFor : Option Permit → Result Permit Unsolved → Type 0
FreeFor q (Ok a) = q ≡ None
FreeFor q (Err u) = Unit {0}

abbrev pub solved_entry : {S : Type 0} → Result Permit Unsolved → Entry S
solved_entry (Ok a) = entry.Solved (Ok a.report)
solved_entry (Err u) = entry.Solved (Err u)

abbrev pub hand_after : Option Permit → Result Permit Unsolved → Option Permit
hand_after q (Ok a) = Some a
hand_after q (Err u) = q

abbrev pub is_open : {S : Type 0} → Order S → Bool
is_open (order.Open b s n) = true
is_open (order.Receive b s p y) = false
is_open (order.Packet s bs) = false
is_open (order.Run s bs) = false
is_open (order.Solve c p ws ss) = false
is_open (order.Show p hand) = false
is_open (order.Close hand) = false
is_open (order.Renew s) = false
is_open order.Figure = false
is_open (order.Mark p) = false

-- what a session is held with: its symbols, its codes and its working memory
pub record Setting (S : Type 0) : Type 1 where
  pub kind : Kind S
  pub carriage : Carriage S
  pub codes : List Pile
  pub memory : Memory

abbrev pub setting : {S : Type 0} → Kind S → Carriage S → List Pile → Memory → Setting S
setting K c ps memory = record { kind = K; carriage = c; codes = ps; memory = memory }

module _ {S : Type 0} (g : Setting S) where
  -- an open is no call on an opened block
  abbrev pub Acts : Option Permit → Side S → Order S → Entry S → Side S → Type 0
  Acts other x (order.Open b s n) e z = ⊥
  Acts other x (order.Receive b s p y) e z = Moves g.kind entry.Received (receive_event b s p y) x e z
  Acts other x (order.Packet s bs) e z =
      Carries g.kind entry.Packed (λ m r m'. g.carriage.packs m s (vec_items bs) r m') (g.carriage.packet s (vec_items bs)) x e z
  Acts other x (order.Run s bs) e z =
      Carries g.kind entry.Ran (λ m r m'. g.carriage.runs m s (vec_items bs) r m') (g.carriage.run s (vec_items bs)) x e z
  Acts other x (order.Solve c p ws ss) e z = Solves g.kind g.memory (coded g.codes c) p ws ss x e z
  Acts other x (order.Show p hand) e z = Shows g.kind (in_which hand x.held other) p x e z
  Acts other x (order.Close hand) e z = ClosesUnder g.kind hand other x e z
  Acts other x (order.Renew s) e z = Moves g.kind entry.Renewed (renew_event s) x e z
  Acts other x order.Figure e z = (e ≡ entry.Figured (percent (received_count x.block) x.block.n)) × (z ≡ x)
  Acts other x (order.Mark p) e z = (e ≡ entry.Marked (mark_at x.block p)) × (z ≡ x)

  pub record Acted (m m' : Block S) (q q' other : Option Permit) (o : Order S) (e : Entry S) : Type 0 where
    pub tells : List (Event S) → List (Event S)
    pub acts : (b : Bool) (p : Option Opened) (h : List (Event S)) (ds : List (Day S)) → Acts other (side b m q p h ds) o e (side b m' q' p (tells h) ds)
    pub history : (p : Opened) (h : List (Event S)) → Stands g.kind p h m → Stands g.kind p (tells h) m'
    pub holding : Holding m q → Holding m' q'

-- A whole session: two blocks, their calls in order, the log, and what is true of it.
--
--   Now           between two calls: the two sides, and how many places of the session's tables are left
--   retired       the histories of a side's blocks, the one in hand among them
--   Opens         what an open makes of a side and of the tables left
--   Obeys         what a call with its entry makes of the side it goes to
--   On            what a call with its entry makes of a session; an entry that does not belong to its call contradicts it
--   Plays         what the calls of a session and the entries of its log make of it, from its beginning to its end
--   AllTrue       every event of every block that a granted open gave was true when it came
--   Session       one entry for each call, each belonging to it, and every event of every block was true when it came
--   Played        what a whole session answers
--   emptied       memory after a session
--   seat_side, Same, Unopened    a seat as a side, the same seat after a call on the other, and one where no block was opened
--   Good, Asked, Turned, Going, Cut, OpenMade    what the parts of a session do
use Rattle.std.specs.Prelude.{◌≡◌, ℕ, ◌+◌, ◌<◌, Bool, true, false, List, [], ◌∷◌, length, replicate, is_some, Some, None, Ok, Err, MatchBool, Option, Result, ◌≢◌, nat_lt}
use Rattle.std.specs.List.{AllByRecursion}
use Rattle.symbols.specs.Kinds.{Kind}
use Rattle.receiver.specs.declared.fault.Fault.{Fault}
use Rattle.receiver.specs.declared.permit.Permit.{Permit}
use Rattle.receiver.specs.Calls.{open_refusal}
use Rattle.receiver.specs.History.{Event, Opened, Truths}
use Rattle.receiver.specs.Blocks.{Block, opened}
use Rattle.receiver.specs.View.{model}
use Rattle.receiver.specs.Stands.{Stands, opening}
use Rattle.session.specs.Obeying.{Setting, Acts}
use Rattle.receiver.specs.Holding.{Holding}
use Rattle.session.specs.Sides.{Day, Side, side, Standing}
use Rattle.session.specs.declared.whole.Seat.{Seat}
use Rattle.session.specs.declared.whole.Left.{Left}
use Rattle.session.specs.declared.whole.LogLength.{LogLength}
use Rattle.session.specs.declared.order.Call.{Call}
use Rattle.session.specs.declared.order.Which.{Which}
use Rattle.session.specs.declared.order.Which.TheVariants.{First, Second}
use Rattle.session.specs.declared.order.Order.{Order}
use Rattle.session.specs.declared.order.Order.TheVariants as order
use Rattle.session.specs.declared.order.Entry.{Entry}
use Rattle.session.specs.declared.order.Entry.TheVariants as entry

pub record Now (S : Type 0) : Type 0 where
  pub first : Side S
  pub second : Side S
  pub room : ℕ

abbrev pub retired_with : {S : Type 0} → Option Opened → List (Event S) → List (Day S) → List (Day S)
retired_with None h ds = ds
retired_with (Some o) h ds = record { opened = o; history = h } ∷ ds

abbrev pub retired : {S : Type 0} → Side S → List (Day S)
retired x = retired_with x.opened x.history x.past

module _ {S : Type 0} (g : Setting S) where
  -- granted, over a table of so many places; refused, the block has none
  abbrev pub OpensBy : Option Fault → (number stamp places : ℕ) → Side S → (room : ℕ) → Entry S → Side S → (room' : ℕ) → Type 0
  OpensBy None b s n x room e z room' =
      MatchBool (nat_lt room n) ((e ≡ entry.NoMemory) × (z ≡ x) × (room' ≡ room))
      ((table : List S) × (e ≡ entry.Opened (Ok tt)) × (length table ≡ n) × (room' + n ≡ room)
      × (z ≡ side true (opened g.kind b s table) None (Some (opening b s n)) [] (retired x)))
  OpensBy (Some f) b s n x room e z room' =
      (table : List S) × (e ≡ entry.Opened (Err f)) × (is_some (open_refusal b s (length table)) ≡ true) × (room' ≡ room)
      × (z ≡ side true (opened g.kind b s table) None None [] (retired x))

  abbrev pub Opens : Option Permit → (number stamp places : ℕ) → Side S → (room : ℕ) → Entry S → Side S → (room' : ℕ) → Type 0
  Opens (Some q) b s n x room e z room' = (e ≡ entry.PermitInHand) × (z ≡ x) × (room' ≡ room)
  Opens None b s n x room e z room' = OpensBy (open_refusal b s n) b s n x room e z room'

  -- a call that is no open, on a side whose block was opened or never was
  abbrev pub Asks : Option Permit → Side S → (room : ℕ) → Order S → Entry S → Side S → (room' : ℕ) → Type 0
  Asks other x room o e z room' = MatchBool x.begun (Acts g other x o e z) ((e ≡ entry.NoBlock) × (z ≡ x)) × (room' ≡ room)

  abbrev pub Obeys : Option Permit → Side S → (room : ℕ) → Order S → Entry S → Side S → (room' : ℕ) → Type 0
  Obeys other x room (order.Open b s n) e z room' = Opens x.held b s n x room e z room'
  Obeys other x room (order.Receive b s p y) e z room' = Asks other x room (order.Receive b s p y) e z room'
  Obeys other x room (order.Packet s bs) e z room' = Asks other x room (order.Packet s bs) e z room'
  Obeys other x room (order.Run s bs) e z room' = Asks other x room (order.Run s bs) e z room'
  Obeys other x room (order.Solve c p ws ss) e z room' = Asks other x room (order.Solve c p ws ss) e z room'
  Obeys other x room (order.Show p hand) e z room' = Asks other x room (order.Show p hand) e z room'
  Obeys other x room (order.Close hand) e z room' = Asks other x room (order.Close hand) e z room'
  Obeys other x room (order.Renew s) e z room' = Asks other x room (order.Renew s) e z room'
  Obeys other x room order.Figure e z room' = Asks other x room order.Figure e z room'
  Obeys other x room (order.Mark p) e z room' = Asks other x room (order.Mark p) e z room'

  abbrev pub On : Now S → Which → Order S → Entry S → Now S → Type 0
  On x First o e z = Obeys x.second.held x.first x.room o e z.first z.room × (z.second ≡ x.second)
  On x Second o e z = Obeys x.first.held x.second x.room o e z.second z.room × (z.first ≡ x.first)

  abbrev pub Plays : Now S → List (Call S) → List (Entry S) → Now S → Type 0
  Plays x [] [] z = z ≡ x
  Plays x [] (e ∷ es) z = ⊥
  Plays x (c ∷ cs) [] z = ⊥
  Plays x (c ∷ cs) (e ∷ es) z = (y : Now S) × On x c.block c.order e y × Plays y cs es z

  abbrev pub DayTrue : Day S → Type 0
  DayTrue d = Truths g.kind d.opened d.history

  -- every event of every block that a granted open gave was true when it came
  pub record AllTrue (x : Now S) : Type 0 where
    pub first : AllByRecursion DayTrue (retired x.first)
    pub second : AllByRecursion DayTrue (retired x.second)

  -- nothing is opened yet
  abbrev pub unopened : Side S
  unopened = side false (opened g.kind 0 0 []) None None [] []

  abbrev pub beginning : (room : ℕ) → Now S
  beginning room = record { first = unopened; second = unopened; room = room }

  -- and the permits left in a hand at the end are those that were closed then
  pub record Session (room : ℕ) (calls : List (Call S)) (log : List (Entry S)) (left : Left) : Type 0 where
    pub end : Now S
    pub plays : Plays (beginning room) calls log end
    pub true_all : AllTrue end
    pub left_first : left.first ≡ is_some end.first.held
    pub left_second : left.second ≡ is_some end.second.held

  abbrev pub Played : (room : ℕ) → List (Call S) → (log log' : List (Entry S)) → Result Left LogLength → Type 0
  Played room calls log log' (Ok left) = Session room calls log' left
  Played room calls log log' (Err e) = (log' ≡ log) × (e.0 ≡ length log) × (length log ≢ length calls)

  -- what holds of a side between two calls: its block is as its history tells, the permit in hand is the block's, and every
  -- event of the blocks before it was true
  pub record Good (x : Side S) : Type 0 where
    pub standing : Standing g.kind x.opened x.history x.block
    pub holding : Holding x.block x.held
    pub past : AllByRecursion DayTrue x.past

  -- what one call does to the side that it goes to
  pub record Asked (other : Option Permit) (x : Side S) (room : ℕ) (o : Order S) (e : Entry S) (begun : Bool) (m : Block S) (q : Option Permit) (room' : ℕ) : Type 0 where
    pub opened_with : Option Opened
    pub history : List (Event S)
    pub past : List (Day S)
    pub obeys : Obeys other x room o e (side begun m q opened_with history past) room'
    pub good : Good x → Good (side begun m q opened_with history past)

-- the side of a seat, with the histories of its blocks
abbrev pub seat_side : {S : Type 0} → Seat S → Option Opened → List (Event S) → List (Day S) → Side S
seat_side x o h ds = side x.begun (model x.desk.block) x.desk.held o h ds

-- two seats with the same block, flag and permit
pub record Same {S : Type 0} (x x' : Seat S) : Type 0 where
  pub begun : x'.begun ≡ x.begun
  pub block : model x'.desk.block ≡ model x.desk.block
  pub held : x'.desk.held ≡ x.desk.held

-- a seat where no block was ever opened
pub record Unopened {S : Type 0} (K : Kind S) (x : Seat S) : Type 0 where
  pub begun : x.begun ≡ false
  pub block : model x.desk.block ≡ opened K 0 0 []
  pub held : x.desk.held ≡ None

module _ {S : Type 0} (g : Setting S) where
  -- what one call does to the session: the side that it goes to moves, and the other stays
  abbrev pub TurnedBy : Which → Call S → Entry S → (first first' second second' : Seat S) → (room room' : ℕ) → Type 0
  TurnedBy First c e x x' y y' room room' =
      ((o : Option Opened) (h : List (Event S)) (ds : List (Day S)) → Asked g y.desk.held (seat_side x o h ds) room c.order e x'.begun (model x'.desk.block) x'.desk.held room')
      × Same y y'
  TurnedBy Second c e x x' y y' room room' =
      ((o : Option Opened) (h : List (Event S)) (ds : List (Day S)) → Asked g x.desk.held (seat_side y o h ds) room c.order e y'.begun (model y'.desk.block) y'.desk.held room')
      × Same x x'

  pub record Turned (c : Call S) (e : Entry S) (x x' y y' : Seat S) (room room' : ℕ) : Type 0 where
    pub turned : TurnedBy c.block c e x x' y y' room room'

  -- how far a session has come
  pub record Going (room : ℕ) (calls : List (Call S)) (log : List (Entry S)) (x y : Seat S) (room' : ℕ) : Type 0 where
    pub now : Now S
    pub plays : Plays g (beginning g room) calls log now
    pub first : now.first ≡ seat_side x now.first.opened now.first.history now.first.past
    pub second : now.second ≡ seat_side y now.second.opened now.second.history now.second.past
    pub left : now.room ≡ room'
    pub good_first : Good g now.first
    pub good_second : Good g now.second

-- memory after a session: zero, and as it was where the session was not begun
abbrev pub emptied : {X : Type 0} → X → List X → Result Left LogLength → List X
emptied z xs (Ok left) = replicate (length xs) z
emptied z xs (Err e) = xs

-- a table of n places cut off those left, or none where there are fewer
abbrev pub Cut : ℕ → (room : ℕ) → Option ℕ → (room' : ℕ) → Type 0
Cut n room None room' = (room < n) × (room' ≡ room)
Cut n room (Some l) room' = (l ≡ n) × (room' + n ≡ room)

-- what an open does where no permit is in hand
module _ {S : Type 0} (K : Kind S) where
  abbrev pub OpenMadeBy : Option Fault → (number stamp places : ℕ) → Bool → Block S → (room : ℕ) → Entry S → Bool → Block S → (room' : ℕ) → Type 0
  OpenMadeBy (Some f) b s n begun m room e begun' m' room' =
      (e ≡ entry.Opened (Err f)) × (begun' ≡ true) × (m' ≡ opened K b s []) × (room' ≡ room)
  OpenMadeBy None b s n begun m room e begun' m' room' =
      MatchBool (nat_lt room n) ((e ≡ entry.NoMemory) × (begun' ≡ begun) × (m' ≡ m) × (room' ≡ room))
      ((table : List S) × (e ≡ entry.Opened (Ok tt)) × (begun' ≡ true) × (length table ≡ n) × (m' ≡ opened K b s table)
      × (room' + n ≡ room) × Stands K (opening b s n) [] m')

  abbrev pub OpenMade : (number stamp places : ℕ) → Bool → Block S → (room : ℕ) → Entry S → Bool → Block S → (room' : ℕ) → Type 0
  OpenMade b s n begun m room e begun' m' room' = OpenMadeBy (open_refusal b s n) b s n begun m room e begun' m' room'

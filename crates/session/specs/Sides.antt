-- What a session keeps of each of its blocks, and what a solve makes of one.
--
--   Day           the history of a block from its granted open on
--   Side          a block with the permit in its hand, its history, and those of the blocks before it
--   side, moved   a side by its parts, and the side after a call on its block
--   Standing      a block from a granted open is as its history tells
--   Memory        how much working memory a session has
--   pile_at, coded    one of the session's codes by its place: the pile, and ; none where there is no such code
--   Solving       what a solve answers, the block after it, and the columns that its policy named
--   solve_by      what a solve makes of a block, with the policy of a name
--   Solved, PileSolved    a solve was made of a block, and the promise over histories goes on with it
use Rattle.std.specs.Prelude.{◌≡◌, ℕ, Bool, List, [], ◌∷◌, length, Some, None, Ok, Err, Option, Result}
use Rattle.std.specs.List.{slice_get}
use Rattle.symbols.specs.Kinds.{Kind}
use Rattle.codes.specs.Matrix.{Matrix}
use Rattle.codes.specs.Refusals.{Cause}
use Rattle.codes.specs.declared.refusal.Refusal.{Refusal}
use Rattle.piles.specs.Piles.{pile_code}
use Rattle.piles.specs.declared.pile.Pile.{Pile}
use Rattle.piles.specs.declared.policy.PolicyName.{PolicyName}
use Rattle.receiver.specs.declared.fault.Unsolved.{Unsolved}
use Rattle.receiver.specs.declared.permit.Permit.{Permit}
use Rattle.receiver.specs.Calls.{refusal}
use Rattle.receiver.specs.Calls.Call.{solve}
use Rattle.receiver.specs.History.{Event, Opened}
use Rattle.receiver.specs.Blocks.{Block, seen}
use Rattle.receiver.specs.Solves.{search_of, named, solved_by, solve_event}
use Rattle.receiver.specs.Stands.{Stands, GoesOn}
use Rattle.session.specs.Naming.{named_choice}
use Rattle.session.specs.declared.named.Named.{Named}

pub record Day (S : Type 0) : Type 0 where
  pub opened : Opened
  pub history : List (Event S)

pub record Side (S : Type 0) : Type 0 where
  pub begun : Bool  -- whether a block was ever opened on it
  pub block : Block S
  pub held : Option Permit
  pub opened : Option Opened  -- none where the block's open was refused
  pub history : List (Event S)  -- the block's, newest first
  pub past : List (Day S)  -- of the blocks before it

abbrev pub side : {S : Type 0} → Bool → Block S → Option Permit → Option Opened → List (Event S) → List (Day S) → Side S
side b m q o h ds = record { begun = b; block = m; held = q; opened = o; history = h; past = ds }

abbrev pub moved : {S : Type 0} → Side S → Block S → Option Permit → List (Event S) → Side S
moved x m q h = side x.begun m q x.opened h x.past

abbrev pub Standing : {S : Type 0} → Kind S → Option Opened → List (Event S) → Block S → Type 0
Standing K None h m = Unit {0}
Standing K (Some o) h m = Stands K o h m

pub record Memory : Type 0 where
  pub words : ℕ
  pub symbols : ℕ

abbrev pub memory_of : {S : Type 0} → List ℕ → List S → Memory
memory_of ws ss = record { words = length ws; symbols = length ss }

abbrev pub code_in : Result Matrix Cause → Option Matrix
code_in (Ok k) = Some k
code_in (Err c) = None

abbrev pub pile_in : Option Pile → Option Matrix
pile_in None = None
pile_in (Some p) = code_in (pile_code p)

abbrev pub pile_at : List Pile → Option ℕ → Option Pile
pile_at ps None = None
pile_at ps (Some i) = slice_get ps i

abbrev pub coded : List Pile → Option ℕ → Option Matrix
coded ps c = pile_in (pile_at ps c)

pub record Solving (S : Type 0) : Type 0 where
  pub answer : Result Permit Unsolved
  pub block : Block S
  pub named : List ℕ

abbrev pub solve_by : {S : Type 0} → Kind S → Matrix → PolicyName → (words symbols : ℕ) → Block S → Solving S
solve_by K k p ws ss m =
    let policy : Named = record { name = p } in
    let done = solved_by K named_choice k m policy (refusal K (seen m) (solve (search_of k ws ss))) [] [] in
    record { answer = done.answer; block = done.block; named = named K named_choice k m policy }

-- what a solve with a permit for its answer, or none, made of a block
pub record Solved {S : Type 0} (K : Kind S) (k : Matrix) (p : PolicyName) (words symbols : ℕ) (m : Block S) (r : Result Permit Unsolved) (m' : Block S) : Type 0 where
  pub answer : (solve_by K k p words symbols m).answer ≡ r
  pub block : (solve_by K k p words symbols m).block ≡ m'
  pub history : GoesOn K m (solve_event (search_of k words symbols) (solve_by K k p words symbols m).named r ∷ []) m'

-- the same of the code of a pile; where that is none, nothing is done
abbrev pub PileSolved : {S : Type 0} → Kind S → Result Matrix Cause → PolicyName → (words symbols : ℕ) → Block S → Result (Result Permit Unsolved) Refusal → Block S → Type 0
PileSolved K (Ok k) p ws ss m (Ok r) m' = Solved K k p ws ss m r m'
PileSolved K (Ok k) p ws ss m (Err e) m' = ⊥
PileSolved K (Err c) p ws ss m (Ok r) m' = ⊥
PileSolved K (Err c) p ws ss m (Err e) m' = m' ≡ m

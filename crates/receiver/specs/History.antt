-- The promise over all histories of a block: what its calls and their answers tell, and what is true of each.
--
--   Opened        what a granted open was handed
--   Found         what a search answers: a permit, no codeword, or several
--   Event         a call with its answer
--   Packet        a packet taken: the stamp handed to its receive, its number and its symbol
--   Told          what the calls and answers so far tell of the block
--   told          the same of a whole history, newest event first
--   missing       the packets missing: numbers below n that no packet taken bears
--   Agrees        a codeword that has each packet's symbol at its number
--   Searched      what is true of a solve that searched
--   Shown         what is true of a packet shown
--   Truth         what is true of an event, after what was told before it
--   Truths        each event of a history was true when it came
use Rattle.std.specs.Prelude.{◌≡◌, ℕ, ◌<◌, Bool, false, not, ◌&&◌, ◌||◌, ◌↔◌, List, [], ◌∷◌, length, Some, None, Option, ◌==◌, nat_lt, slice_index_or}
use Rattle.std.specs.List.{AllByRecursion}
use Rattle.symbols.specs.Kinds.{Kind}
use Rattle.codes.specs.Matrix.{Matrix}
use Rattle.codes.specs.Codewords.{Codeword}
use Rattle.method.specs.Fillings.{No, Only, One, Two}
use Rattle.method.specs.Stopping.{Stopping, NamedInTurn}
use Rattle.receiver.specs.declared.block.Out.{Out}
use Rattle.receiver.specs.declared.block.Out.TheVariants.{Nothing, Full}
use Rattle.receiver.specs.declared.fault.Fault.{Fault}
use Rattle.search.specs.declared.answer.Report.{Report}
use Rattle.receiver.specs.declared.permit.Permit.{Permit}
use Rattle.receiver.specs.Calls.{Search, Call, View, refusal}
use Rattle.receiver.specs.Calls.Call.{receive, solve, show, close, renew}

pub record Opened : Type 0 where
  pub number : ℕ
  pub stamp : ℕ
  pub places : ℕ

pub data Found : Type 0 where
  permit : Permit → Found
  no_codeword : Report → Found
  several_codewords : Report → (shortfall : ℕ) → Found

pub data Answer : Type 0 where
  none one several : Answer

abbrev pub answer : Found → Answer
answer (permit q) = one
answer (no_codeword r) = none
answer (several_codewords r k) = several

abbrev pub pivots : Found → ℕ
pivots (permit q) = q.report.pivots
pivots (no_codeword r) = r.pivots
pivots (several_codewords r k) = r.pivots

pub data Event (S : Type 0) : Type 0 where
  refused : Call S → Fault → Event S
  unread : (stamp length : ℕ) → Event S  -- bytes of no packet's length
  received : (number stamp place : ℕ) (symbol : S) → Event S
  searched : Search → (named : List ℕ) → Found → Event S  -- with the columns that its policy named
  shown : Permit → (place : ℕ) (symbol : S) → Event S
  closed : Permit → Event S
  renewed : (stamp : ℕ) → Event S

pub record Packet (S : Type 0) : Type 0 where
  pub stamp : ℕ
  pub place : ℕ
  pub symbol : S

-- a granted solve: the packets taken by then, and its code
pub record Solved (S : Type 0) : Type 0 where
  pub packets : List (Packet S)
  pub code : Matrix

pub record Told (S : Type 0) : Type 0 where
  pub stamp : ℕ  -- handed to open or to the last granted renew
  pub packets : List (Packet S)  -- taken since then
  pub out : Out  -- whether a solve was granted and no close since
  pub last : Option (Solved S)  -- the last granted solve

abbrev pub after : {S : Type 0} → Event S → Told S → Told S
after (refused c f) t = t
after (unread s n) t = t
after (received b s p x) t =
    record { stamp = t.stamp; packets = record { stamp = s; place = p; symbol = x } ∷ t.packets; out = t.out; last = t.last }
after (searched s cs (permit q)) t =
    record { stamp = t.stamp; packets = t.packets; out = Full; last = Some (record { packets = t.packets; code = s.code }) }
after (searched s cs (no_codeword r)) t = t
after (searched s cs (several_codewords r k)) t = t
after (shown q p x) t = t
after (closed q) t = record { stamp = t.stamp; packets = t.packets; out = Nothing; last = t.last }
after (renewed s) t = record { stamp = s; packets = []; out = t.out; last = t.last }

abbrev pub told : {S : Type 0} → Opened → List (Event S) → Told S
told o [] = record { stamp = o.stamp; packets = []; out = Nothing; last = None }
told o (e ∷ h) = after e (told o h)

-- whether one of the packets bears this number
abbrev pub borne : {S : Type 0} → List (Packet S) → ℕ → Bool
borne [] p = false
borne (k ∷ ks) p = k.place == p || borne ks p

abbrev pub missing : {S : Type 0} → Opened → Told S → ℕ → Bool
missing o t p = nat_lt p o.places && not (borne t.packets p)

-- what decides the refusals, by the calls and answers alone
abbrev pub view : {S : Type 0} → Opened → Told S → View
view o t = record { number = o.number; stamp = t.stamp; places = o.places; out = t.out; has = borne t.packets }

module _ {S : Type 0} (K : Kind S) where
  pub record Agrees (ks : List (Packet S)) (code : Matrix) (w : List S) : Type 0 where
    pub codeword : Codeword K code w
    pub has_each : AllByRecursion (λ k. slice_index_or w k.place K.zero ≡ k.symbol) ks

  -- all packets taken were taken under the block's stamp
  abbrev pub Under : Told S → Type 0
  Under t = AllByRecursion (λ k. k.stamp ≡ t.stamp) t.packets

  -- a permit bears the block's number and stamp
  abbrev pub Bears : Opened → Told S → Found → Type 0
  Bears o t (permit q) = (q.number ≡ o.number) × (q.stamp ≡ t.stamp)
  Bears o t (no_codeword r) = Unit {0}
  Bears o t (several_codewords r k) = Unit {0}

  pub record Searched (o : Opened) (t : Told S) (s : Search) (named : List ℕ) (r : Found) : Type 0 where
    pub reached : refusal K (view o t) (solve s) ≡ None
    pub under : Under t
    pub none_when : (answer r ≡ none) ↔ No (Agrees t.packets s.code)
    pub one_when : (answer r ≡ one) ↔ One (Agrees t.packets s.code)
    pub several_when : (answer r ≡ several) ↔ Two (Agrees t.packets s.code)
    pub bears : Bears o t r
    pub pivots_named : pivots r ≡ length named
    pub named_in_turn : NamedInTurn s.code (missing o t) named
    pub pivots_none : (pivots r ≡ 0) ↔ No (Stopping s.code (missing o t))

  -- x stands at its number in the codeword that the last granted solve found
  abbrev pub InFound : Option (Solved S) → (place : ℕ) → S → Type 0
  InFound None p x = ⊥
  InFound (Some d) p x = (w : List S) × Only (Agrees d.packets d.code) w × (p < length w) × (x ≡ slice_index_or w p K.zero)

  pub record Shown (o : Opened) (t : Told S) (q : Permit) (place : ℕ) (symbol : S) : Type 0 where
    pub granted : refusal K (view o t) (show q place) ≡ None
    pub in_found : InFound t.last place symbol
    pub stamp_borne : q.stamp ≡ t.stamp
    pub under : Under t

  abbrev pub Truth : Opened → Told S → Event S → Type 0
  Truth o t (refused c f) = refusal K (view o t) c ≡ Some f
  Truth o t (unread s n) = (n == 68) ≡ false
  Truth o t (received b s p x) = refusal K (view o t) (receive b s p x) ≡ None
  Truth o t (searched s cs r) = Searched o t s cs r
  Truth o t (shown q p x) = Shown o t q p x
  Truth o t (closed q) = refusal K (view o t) (close q) ≡ None
  Truth o t (renewed s) = refusal K (view o t) (renew s) ≡ None

  abbrev pub Truths : Opened → List (Event S) → Type 0
  Truths o [] = Unit {0}
  Truths o (e ∷ h) = Truth o (told o h) e × Truths o h

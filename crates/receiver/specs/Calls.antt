-- The calls on a block, and what refuses each: its causes in their order, judged by what calls and answers tell of the block.
--
--   Search        what a solve is handed: its code, and the lengths of its working memory
--   Call          a call with what it is handed
--   View          what decides a refusal; the block and the history each give one
--   owns          whether a permit is the block's
--   causes        the causes that refuse a call, in their order
--   refusal       the first of them that holds; none where the call is granted or, of a solve, reaches its search
--   open_refusal  what refuses an open
use Rattle.std.specs.Prelude.{ℕ, ◌*◌, Bool, true, false, not, ◌&&◌, ◌||◌, List, [], ◌∷◌, Option, ◌==◌, nat_le, nat_lt}
use Rattle.refusals.specs.Refusals.{Cause, if_so, first_of}
use Rattle.symbols.specs.Kinds.{Kind}
use Rattle.codes.specs.Matrix.{Matrix, height}
use Rattle.receiver.specs.declared.block.Out.{Out}
use Rattle.receiver.specs.declared.block.Out.TheVariants.{Nothing, Full}
use Rattle.receiver.specs.declared.permit.Permit.{Permit}
use Rattle.receiver.specs.declared.fault.Fault.{Fault}
use Rattle.receiver.specs.declared.fault.Fault.TheVariants.{BlockNumber, NoStamp, TableLength, OtherWidth, PermitOut, OtherBlock, OtherStamp, NoPlace, Received, NotLater, ShortMemory, NotItsPermit}

pub record Search : Type 0 where
  pub code : Matrix
  pub words : ℕ
  pub symbols : ℕ

pub data Call (S : Type 0) : Type 0 where
  receive : (number stamp place : ℕ) (symbol : S) → Call S
  solve : Search → Call S
  show : Permit → (place : ℕ) → Call S
  close : Permit → Call S
  renew : (stamp : ℕ) → Call S

pub record View : Type 0 where
  pub number : ℕ
  pub stamp : ℕ
  pub places : ℕ
  pub out : Out
  pub has : ℕ → Bool

abbrev pub is_out : Out → Bool
is_out Nothing = false
is_out Full = true

-- one is out, and its numbers are the block's
abbrev pub owns : View → Permit → Bool
owns v q = is_out v.out && (q.number == v.number && q.stamp == v.stamp)

abbrev pub too_short : Search → Bool
too_short s = nat_lt s.words (8 * height s.code) || nat_lt s.symbols (height s.code)

abbrev pub causes : {S : Type 0} → Kind S → View → Call S → List (Cause Fault)
causes K v (receive b s p x) =
    if_so (is_out v.out) (PermitOut v.stamp)
    ∷ if_so (not (b == v.number)) (OtherBlock b)
    ∷ if_so (not (s == v.stamp)) (OtherStamp v.stamp)
    ∷ if_so (nat_le v.places p) (NoPlace p)
    ∷ if_so (v.has p) (Received p)
    ∷ []
causes K v (solve s) =
    if_so (is_out v.out) (PermitOut v.stamp)
    ∷ if_so (not (s.code.width == v.places)) (OtherWidth s.code.width)
    ∷ if_so (too_short s) (ShortMemory (height s.code))
    ∷ []
causes K v (show q p) =
    if_so (not (owns v q)) (NotItsPermit v.stamp)
    ∷ if_so (nat_le v.places p) (NoPlace p)
    ∷ []
causes K v (close q) = if_so (not (owns v q)) (NotItsPermit v.stamp) ∷ []
causes K v (renew s) =
    if_so (is_out v.out) (PermitOut v.stamp)
    ∷ if_so (s == 0) NoStamp
    ∷ if_so (nat_le s v.stamp) (NotLater v.stamp)
    ∷ []

abbrev pub refusal : {S : Type 0} → Kind S → View → Call S → Option Fault
refusal K v c = first_of (causes K v c)

abbrev pub open_refusal : (number stamp places : ℕ) → Option Fault
open_refusal b s n =
    first_of (if_so (nat_lt 4095 b) (BlockNumber b)
    ∷ if_so (s == 0) NoStamp
    ∷ if_so (n == 0 || nat_lt 512 n) (TableLength n)
    ∷ [])

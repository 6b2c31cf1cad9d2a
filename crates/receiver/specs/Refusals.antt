-- Refusals: the number of each, and the values that it returns.
--
--   meaning       what a fault of a block means
--   unsolved      what it means that a solve gave no permit
use Rattle.std.specs.Prelude.{[], ◌∷◌}
use Rattle.refusals.specs.Refusals.{Refusal, refusal}
pub use Rattle.refusals.specs.Refusals.{value_of}
use Rattle.receiver.specs.declared.fault.Fault.{Fault}
use Rattle.receiver.specs.declared.fault.Fault.TheVariants.{BlockNumber, NoStamp, TableLength, OtherWidth, PermitOut, OtherBlock, OtherStamp, NoPlace, Received, NotLater, ShortMemory, NotItsPermit}
use Rattle.receiver.specs.declared.fault.Unsolved.{Unsolved}
use Rattle.receiver.specs.declared.fault.Unsolved.TheVariants.{Refused, NoCodeword, Several}

abbrev pub meaning : Fault → Refusal
meaning (BlockNumber b) = refusal 2 (b ∷ [])
meaning NoStamp = refusal 3 []
meaning (TableLength n) = refusal 4 (n ∷ [])
meaning (OtherWidth n) = refusal 5 (n ∷ [])
meaning (PermitOut s) = refusal 6 (s ∷ [])
meaning (OtherBlock b) = refusal 7 (b ∷ [])
meaning (OtherStamp s) = refusal 8 (s ∷ [])
meaning (NoPlace p) = refusal 9 (p ∷ [])
meaning (Received p) = refusal 10 (p ∷ [])
meaning (NotLater s) = refusal 11 (s ∷ [])
meaning (ShortMemory m) = refusal 12 (m ∷ [])
meaning (NotItsPermit s) = refusal 15 (s ∷ [])

abbrev pub unsolved : Unsolved → Refusal
unsolved (Refused f) = meaning f
unsolved (NoCodeword r) = refusal 13 (r.pivots ∷ r.additions ∷ [])
unsolved (Several r k) = refusal 14 (r.pivots ∷ r.additions ∷ k ∷ [])

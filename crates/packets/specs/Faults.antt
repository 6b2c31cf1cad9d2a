-- What each fault of a packet means.
--
--   meaning       the number and the values of each fault
--   answered      what a call answered, its fault by number and values
use Rattle.std.specs.Prelude.{[], ◌∷◌, Ok, Err, Result}
use Rattle.refusals.specs.Refusals.{Refusal, refusal}
use Rattle.packets.specs.declared.fault.HeaderFault.{HeaderFault}
use Rattle.packets.specs.declared.fault.HeaderFault.TheVariants.{Length, Block, Number}

abbrev pub meaning : HeaderFault → Refusal
meaning (Length n) = refusal 1 (n ∷ [])
meaning (Block b) = refusal 2 (b ∷ [])
meaning (Number p) = refusal 9 (p ∷ [])

abbrev pub answered : {A : Type 0} → Result A HeaderFault → Result A Refusal
answered (Ok a) = Ok a
answered (Err f) = Err (meaning f)

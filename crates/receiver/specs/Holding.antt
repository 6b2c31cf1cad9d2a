-- The permit in a block's hand.
--
--   Holding       the permit in hand is the block's, and none is in hand only where none is out
--   ClosedUnder   the block after a close under the permit in hand, and as it was where none is
use Rattle.std.specs.Prelude.{◌≡◌, [], ◌∷◌, Some, None, Option}
use Rattle.symbols.specs.Kinds.{Kind}
use Rattle.receiver.specs.declared.block.Out.TheVariants.{Nothing, Full}
use Rattle.receiver.specs.declared.permit.Permit.{Permit}
use Rattle.receiver.specs.History.Event.{closed}
use Rattle.receiver.specs.Blocks.{Block}
use Rattle.receiver.specs.Steps.{Step}
use Rattle.receiver.specs.Stands.{GoesOn}

abbrev pub Holding : {S : Type 0} → Block S → Option Permit → Type 0
Holding m None = m.out ≡ Nothing
Holding m (Some q) = (m.out ≡ Full) × (q.number ≡ m.number) × (q.stamp ≡ m.stamp)

abbrev pub ClosedUnder : {S : Type 0} → Kind S → Block S → Option Permit → Block S → Type 0
ClosedUnder K m None m' = m' ≡ m
ClosedUnder K m (Some q) m' = Step K m (closed q) m' × GoesOn K m (closed q ∷ []) m'

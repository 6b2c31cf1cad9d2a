-- The permit in a block's hand stays the block's through the calls that give none and take none.
use Rattle.std.proofs.Common.{◌≡◌, ℕ, ◌+◌, false, List, [], ◌∷◌, Some, None, Ok, Err, Option, Result, sym, ap, ◌∙◌, subst, inl, inr}
use borrow.Author.Tests.{clash}
use Rattle.symbols.specs.Kinds.{Kind}
use Rattle.symbols.specs.Cells.{cell_kind}
use Rattle.symbols.specs.declared.kinds.Cell.{Cell}
use Rattle.receiver.specs.declared.fault.Fault.{Fault}
use Rattle.receiver.specs.declared.permit.Permit.{Permit}
use Rattle.receiver.specs.declared.run.Layer.{Layer}
use Rattle.receiver.specs.declared.run.Layer.TheVariants as layer
use Rattle.receiver.specs.declared.run.Stopped.{Stopped}
use Rattle.receiver.specs.Calls.{is_out}
use Rattle.receiver.specs.Blocks.{Block, filled, renewed_block}
use Rattle.packets.specs.Packets.{block_of, number_of}
use Rattle.receiver.specs.Runs.{PacketStep, Runs, packet_cell}
use Rattle.receiver.specs.Steps.{Step, receive_event, renew_event}
use Rattle.receiver.proofs.Refusing.{no_cause}
use Rattle.receiver.specs.Holding.{Holding}

module _ {S : Type 0} (K : Kind S) where
  filled_held : (m : Block S) (p : ℕ) (x : S) (q : Option Permit) → Holding m q → Holding (filled p x m) q
  filled_held m p x None h = h
  filled_held m p x (Some a) h = h

  pub receive_held : (m m' : Block S) (b s p : ℕ) (x : S) (r : Result (Unit {0}) Fault) → Step K m (receive_event b s p x r) m' → (q : Option Permit) → Holding m q → Holding m' q
  receive_held m m' b s p x (Ok u) step q h = subst (λ n. Holding n q) (sym step.1) (filled_held m p x q h)
  receive_held m m' b s p x (Err f) step q h = subst (λ n. Holding n q) (sym step.1) h

  renewed_held : (s : ℕ) (m : Block S) (q : Option Permit) → is_out m.out ≡ false → Holding m q → Holding (renewed_block K s m) q
  renewed_held s m None e h = h
  renewed_held s m (Some a) e h = absurd (clash (sym e ∙ ap is_out h.0))

  pub renew_held : (m m' : Block S) (s : ℕ) (r : Result (Unit {0}) Fault) → Step K m (renew_event s r) m' → (q : Option Permit) → Holding m q → Holding m' q
  renew_held m m' s (Ok u) step q h = subst (λ n. Holding n q) (sym step.1) (renewed_held s m q (no_cause _ _ _ step.0).0 h)
  renew_held m m' s (Err f) step q h = subst (λ n. Holding n q) (sym step.1) h

pub packet_held : (m m' : Block Cell) (s : ℕ) (bs : List ℕ) (r : Result (Unit {0}) Layer) → PacketStep m s bs r m' → (q : Option Permit) → Holding m q → Holding m' q
packet_held m m' s bs (Ok u) step q h = receive_held cell_kind m m' (block_of bs) s (number_of bs) (packet_cell bs) (Ok u) step.step q h
packet_held m m' s bs (Err (layer.Block f)) step q h = receive_held cell_kind m m' (block_of bs) s (number_of bs) (packet_cell bs) (Err f) step.step q h
packet_held m m' s bs (Err (layer.Header f)) step q h = subst (λ n. Holding n q) (sym step.step.1) h

pub run_held : (s : ℕ) (ps : List (List ℕ)) (m m' : Block Cell) (n at : ℕ) (r : Result ℕ Stopped) → Runs s m ps n at r m' → (q : Option Permit) → Holding m q → Holding m' q
run_held s [] m m' n at r runs q h = subst (λ b. Holding b q) (sym runs.1) h
run_held s (p ∷ ps) m m' n at r (inl (mid, step, rest)) q h = run_held s ps mid m' (n + 1) (at + 68) r rest q (packet_held m mid s p (Ok tt) step q h)
run_held s (p ∷ ps) m m' n at r (inr (f, step, e)) q h = packet_held m m' s p (Err f) step q h

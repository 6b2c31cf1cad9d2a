-- What each call does to a block, told as an event: a call with its answer.
--
--   Step          the first cause that refuses a call refuses it and leaves the block; a granted call does its work
--   receive_event, show_event, shown_event, close_event, renew_event    the event that a call and its answer make
use Rattle.std.specs.Prelude.{◌≡◌, ℕ, false, Some, None, Ok, Err, Result, ◌==◌, slice_index_or}
use Rattle.symbols.specs.Kinds.{Kind}
use Rattle.receiver.specs.declared.fault.Fault.{Fault}
use Rattle.receiver.specs.declared.fault.Fault.TheVariants.{NotItsPermit}
use Rattle.receiver.specs.declared.permit.Permit.{Permit}
use Rattle.receiver.specs.declared.permit.Unclosed.{Unclosed}
use Rattle.receiver.specs.Calls.{refusal}
use Rattle.receiver.specs.Calls.Call.{receive, show, close, renew}
use Rattle.receiver.specs.History.{Event}
use Rattle.receiver.specs.History.Event.{refused, unread, received, searched, shown, closed, renewed}
use Rattle.receiver.specs.Blocks.{Block, seen, filled, closed_block, renewed_block}

-- A search is no matter of the block alone: Solves says what a solve does.
abbrev pub Step : {S : Type 0} → Kind S → Block S → Event S → Block S → Type 0
Step K m (refused c f) m' = (refusal K (seen m) c ≡ Some f) × (m' ≡ m)
Step K m (unread s n) m' = ((n == 68) ≡ false) × (m' ≡ m)
Step K m (received b s p x) m' = (refusal K (seen m) (receive b s p x) ≡ None) × (m' ≡ filled p x m)
Step K m (searched s cs r) m' = ⊥
Step K m (shown q p x) m' = (refusal K (seen m) (show q p) ≡ None) × (x ≡ slice_index_or m.table p K.zero) × (m' ≡ m)
Step K m (closed q) m' = (refusal K (seen m) (close q) ≡ None) × (m' ≡ closed_block K m)
Step K m (renewed s) m' = (refusal K (seen m) (renew s) ≡ None) × (m' ≡ renewed_block K s m)

abbrev pub receive_event : {S U : Type 0} → (number stamp place : ℕ) → S → Result U Fault → Event S
receive_event b s p x (Ok u) = received b s p x
receive_event b s p x (Err f) = refused (receive b s p x) f

abbrev pub show_event : {S U : Type 0} → Permit → (place : ℕ) → S → Result U Fault → Event S
show_event q p x (Ok u) = shown q p x
show_event q p x (Err f) = refused (show q p) f

-- the same of a show that answers the symbol
abbrev pub shown_event : {S : Type 0} → Permit → (place : ℕ) → Result S Fault → Event S
shown_event q p (Ok x) = shown q p x
shown_event q p (Err f) = refused (show q p) f

abbrev pub close_event : {S U : Type 0} → Permit → Result U Unclosed → Event S
close_event q (Ok u) = closed q
close_event q (Err e) = refused (close q) (NotItsPermit e.stamp)

abbrev pub renew_event : {S U : Type 0} → (stamp : ℕ) → Result U Fault → Event S
renew_event s (Ok u) = renewed s
renew_event s (Err f) = refused (renew s) f

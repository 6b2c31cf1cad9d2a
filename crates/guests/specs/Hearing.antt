-- A block that was handed bytes that were heard.
--
--   Taken         the packets that a history tells are the bytes heard below place i, and no permit is out
--   Heard         a history of that kind stands of the block
use Rattle.std.specs.Prelude.{◌≡◌, ℕ, ◌≤◌, false, ◌↔◌, List, length, Option, slice_index_or}
use Rattle.std.specs.List.{AllByRecursion}
use Rattle.receiver.specs.declared.block.Out.TheVariants.{Nothing}
use Rattle.receiver.specs.History.{Told, Event, told, borne}
use Rattle.receiver.specs.Blocks.{Block}
use Rattle.receiver.specs.Stands.{Stands, opening}
use Rattle.guests.specs.Bytes.{byte_of, byte_kind}
use Rattle.guests.specs.Restoring.{AgreesTo}
use Rattle.guests.specs.declared.byte.Byte.{Byte}

pub record Taken (heard : List (Option Byte)) (i : ℕ) (t : Told Byte) : Type 0 where
  pub none_out : t.out ≡ Nothing
  pub stamp : t.stamp ≡ 1
  pub none_ahead : (p : ℕ) → i ≤ p → borne t.packets p ≡ false
  pub same : (w : List Byte) → AllByRecursion (λ k. slice_index_or w k.place (byte_of 0) ≡ k.symbol) t.packets ↔ AgreesTo heard i w

pub record Heard (heard : List (Option Byte)) (i : ℕ) (m : Block Byte) : Type 0 where
  pub history : List (Event Byte)
  pub stands : Stands byte_kind (opening 0 1 (length heard)) history m
  pub taken : Taken heard i (told (opening 0 1 (length heard)) history)

-- A block by its values, and what each call makes of it.
--
--   Block         the values of a block
--   seen          what decides a refusal, by the block's values
--   received_count, mark_at, told_refusal    what a block tells of itself
--   filled, closed_block, renewed_block    the block after a granted call
--   opened_by, opened    the block that an open answers, by its refusal or the first cause that refuses it
--   zero_missing  a table with each missing place zero
use Rattle.std.specs.Prelude.{ℕ, Bool, true, false, cond, List, [], ◌∷◌, ◌++◌, length, take, drop, replicate, Some, None, count_by, Option, nat_lt, slice_index_or, slice_set}
use Rattle.symbols.specs.Kinds.{Kind}
use Rattle.receiver.specs.declared.block.Out.{Out}
use Rattle.receiver.specs.declared.block.Out.TheVariants.{Nothing}
use Rattle.receiver.specs.declared.fault.Fault.{Fault}
use Rattle.receiver.specs.Refusals.{meaning, value_of}
use Rattle.receiver.specs.Calls.{View, open_refusal}

-- n places; the caller's whole table; a flag for each place that was received; number and value of the refusal of its
-- open, none where it was granted
pub record Block (S : Type 0) : Type 0 where
  pub number : ℕ
  pub stamp : ℕ
  pub n : ℕ
  pub table : List S
  pub received : List Bool
  pub out : Out
  pub refused : Option (ℕ × ℕ)

abbrev pub seen : {S : Type 0} → Block S → View
seen m = record { number = m.number; stamp = m.stamp; places = m.n; out = m.out; has = λ p. slice_index_or m.received p false }

-- how many of its places were received
abbrev pub received_count : {S : Type 0} → Block S → ℕ
received_count m = count_by (λ b. b) (take m.n m.received)

-- whether the packet of a place was received; none where there is no such place
abbrev pub mark_at : {S : Type 0} → Block S → ℕ → Option Bool
mark_at m p = cond (nat_lt p m.n) (Some (slice_index_or m.received p false)) None

-- what a block tells of the refusal of its open
abbrev pub told_refusal : {S : Type 0} → Block S → Option (ℕ × ℕ)
told_refusal m = m.refused

-- a table with each missing place zero
abbrev pub zero_missing : {S : Type 0} → S → List Bool → List S → List S
zero_missing z [] xs = xs
zero_missing z (r ∷ rs) [] = []
zero_missing z (true ∷ rs) (x ∷ xs) = x ∷ zero_missing z rs xs
zero_missing z (false ∷ rs) (x ∷ xs) = z ∷ zero_missing z rs xs

-- the block with a table, flags and whether a permit is out
abbrev pub with_table : {S : Type 0} → List S → List Bool → Out → Block S → Block S
with_table xs rs out m =
    record { number = m.number; stamp = m.stamp; n = m.n; table = xs; received = rs; out = out; refused = m.refused }

abbrev pub filled : {S : Type 0} → ℕ → S → Block S → Block S
filled p x m = with_table (slice_set m.table p x) (slice_set m.received p true) m.out m

module _ {S : Type 0} (K : Kind S) where
  -- the first n places zero
  abbrev pub zeroed : ℕ → List S → List S
  zeroed n xs = replicate n K.zero ++ drop n xs

  abbrev pub closed_block : Block S → Block S
  closed_block m = with_table (zero_missing K.zero (take m.n m.received) m.table) m.received Nothing m

  abbrev pub renewed_block : ℕ → Block S → Block S
  renewed_block s m = record {
    number = m.number;
    stamp = s;
    n = m.n;
    table = zeroed m.n m.table;
    received = replicate 512 false;
    out = m.out;
    refused = m.refused;
  }

  -- refused: nothing of the table is the block's
  abbrev pub opened_by : Option Fault → ℕ → ℕ → List S → Block S
  opened_by (Some f) b s xs = record {
    number = 0;
    stamp = 0;
    n = 0;
    table = xs;
    received = replicate 512 false;
    out = Nothing;
    refused = Some ((meaning f).number, value_of (meaning f));
  }
  opened_by None b s xs = record {
    number = b;
    stamp = s;
    n = length xs;
    table = zeroed (length xs) xs;
    received = replicate 512 false;
    out = Nothing;
    refused = None;
  }

  abbrev pub opened : ℕ → ℕ → List S → Block S
  opened b s xs = opened_by (open_refusal b s (length xs)) b s xs

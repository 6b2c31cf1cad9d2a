-- The values of the code's block.
--
--   values        the block's values, of its marks and its table
--   model         the values of a block
--   Blank         marks with nothing received, no stamp and no permit out
use Rattle.std.specs.Prelude.{◌≡◌, ℕ, false, List, Option, replicate}
use Rattle.receiver.specs.declared.block.Block.{Block as Held}
use Rattle.receiver.specs.declared.block.Marks.{Marks}
use Rattle.receiver.specs.declared.block.Out.TheVariants.{Nothing}
use Rattle.receiver.specs.Blocks.{Block}

abbrev pub values : {S : Type 0} → Marks → List S → Block S
values m xs = record {
  number = m.number;
  stamp = m.stamp;
  n = m.n;
  table = xs;
  received = m.received;
  out = m.out;
  refused = m.refused;
}

abbrev pub model : {S : Type 0} → Held S → Block S
model b = values b.marks b.table.now

pub record Blank (m : Marks) (number n : ℕ) (refused : Option (ℕ × ℕ)) : Type 0 where
  pub number_is : m.number ≡ number
  pub stamp_is : m.stamp ≡ 0
  pub n_is : m.n ≡ n
  pub received_is : m.received ≡ replicate 512 false
  pub out_is : m.out ≡ Nothing
  pub refused_is : m.refused ≡ refused

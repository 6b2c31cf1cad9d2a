-- The laws of the byte. (Lemmas: nothing here is to be believed.)
--
--   byte_laws     the five laws of the byte
use Rattle.std.specs.Prelude.{◌≡◌, ℕ, refl}
use Rattle.std.proofs.Common.{ap, arith}
use Rattle.std.specs.Int.Bits.{xor_assoc, xor_self}
use Rattle.std.proofs.lemmas.Nat.{xor_comm}
use Rattle.std.proofs.lemmas.Bool.Decides.{Decides-eqb, Decides-like}
use Rattle.symbols.specs.Kinds.{Laws}
use Rattle.guests.specs.Bytes.{byte_of, byte_kind}
use Rattle.guests.specs.declared.byte.Byte.{Byte}

pub byte_laws : Laws byte_kind
byte_laws = record {
  sums = record {
    associative = λ x y z. ap byte_of (xor_assoc x.value y.value z.value);
    commutative = λ x y. ap byte_of (xor_comm x.value y.value);
    identity = λ x. refl;
  };
  cancels = λ x. ap byte_of (xor_self x.value);
  distinct = λ e. let z : ◌≡◌ {A = ℕ} 1 0 = ap (λ (b : Byte). b.value) e in omega arith;
  tells_zero = λ x. Decides-like _ (ap byte_of) (ap (λ (b : Byte). b.value)) (Decides-eqb x.value 0);
}

-- The laws of the word. (Lemmas: nothing here is to be believed.)
--
--   word_laws     the five laws of the word
use Rattle.std.specs.Prelude.{◌≡◌, ℕ, refl}
use Rattle.std.proofs.Common.{ap, arith}
use Rattle.std.specs.Int.Bits.{xor_assoc, xor_self}
use Rattle.std.proofs.lemmas.Nat.{xor_comm}
use Rattle.std.proofs.lemmas.Bool.Decides.{Decides-eqb, Decides-like}
use Rattle.symbols.specs.Kinds.{Laws}
use Rattle.symbols.specs.Words.{word_of, word_kind}
use Rattle.symbols.specs.declared.kinds.Word.{Word}

pub word_laws : Laws word_kind
word_laws = record {
  sums = record {
    associative = λ x y z. ap word_of (xor_assoc x.value y.value z.value);
    commutative = λ x y. ap word_of (xor_comm x.value y.value);
    identity = λ x. refl;
  };
  cancels = λ x. ap word_of (xor_self x.value);
  distinct = λ e. let z : ◌≡◌ {A = ℕ} 1 0 = ap (λ (w : Word). w.value) e in omega arith;
  tells_zero = λ x. Decides-like _ (ap word_of) (ap (λ (w : Word). w.value)) (Decides-eqb x.value 0);
}

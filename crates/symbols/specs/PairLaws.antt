-- The laws of the pair, from those of its parts. (Lemmas: nothing here is to be believed.)
--
--   pair_laws     the five laws of the pair
use Rattle.std.specs.Prelude.{◌&&◌}
use Rattle.std.proofs.Common.{ap, ap₂}
use Rattle.std.proofs.lemmas.Bool.Decides.{Decides-and, Decides-like}
use Rattle.symbols.specs.Kinds.{Kind, Laws}
use Rattle.symbols.specs.Pairs.{pair_of, pair_kind}
use Rattle.symbols.specs.declared.kinds.Pair.{Pair}

pub pair_laws : {A B : Type 0} (K : Kind A) (L : Kind B) → Laws K → Laws L → Laws (pair_kind K L)
pair_laws {A} {B} K L k l = record {
  sums = record {
    associative = λ x y z. ap₂ pair_of (k.sums.associative x.first y.first z.first) (l.sums.associative x.second y.second z.second);
    commutative = λ x y. ap₂ pair_of (k.sums.commutative x.first y.first) (l.sums.commutative x.second y.second);
    identity = λ x. ap₂ pair_of (k.sums.identity x.first) (l.sums.identity x.second);
  };
  cancels = λ x. ap₂ pair_of (k.cancels x.first) (l.cancels x.second);
  distinct = λ e. k.distinct (ap (λ (p : Pair A B). p.first) e);
  tells_zero = λ x.
      Decides-like (K.is_zero x.first && L.is_zero x.second)
      (λ p. ap₂ pair_of p.0 p.1)
      (λ e. (ap (λ (p : Pair A B). p.first) e, ap (λ (p : Pair A B). p.second) e))
      (Decides-and (K.is_zero x.first) (L.is_zero x.second) (k.tells_zero x.first) (l.tells_zero x.second));
}

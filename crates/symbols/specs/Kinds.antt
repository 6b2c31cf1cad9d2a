-- What a symbol kind is: its functions, and the laws that they keep of every value of the type.
--
--   Kind S        the functions of a kind: zero, unit, sum, is_zero
--   SumLaws       the three laws that a plain sum needs: associative, commutative, identity
--   Laws K        the five laws of a kind, the three among them, and that is_zero tells zero
use Rattle.std.specs.Prelude.{◌≡◌, Bool, Decides}

pub record Kind (S : Type 0) : Type 0 where
  pub zero : S
  pub unit : S
  pub sum : S → S → S
  pub is_zero : S → Bool

pub record SumLaws {S : Type 0} (zero : S) (sum : S → S → S) : Type 0 where
  pub associative : (x y z : S) → sum (sum x y) z ≡ sum x (sum y z)
  pub commutative : (x y : S) → sum x y ≡ sum y x
  pub identity : (x : S) → sum zero x ≡ x

pub record Laws {S : Type 0} (K : Kind S) : Type 0 where
  pub sums : SumLaws K.zero K.sum
  pub cancels : (x : S) → K.sum x x ≡ K.zero
  pub distinct : K.unit ≡ K.zero → ⊥
  pub tells_zero : (x : S) → Decides (K.is_zero x) (x ≡ K.zero)

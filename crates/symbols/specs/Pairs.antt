-- The pair of two symbols as a symbol kind.
--
--   pair_of       the pair of two parts
--   pair_kind     summed part by part; the unit is the first part's unit beside zero
use Rattle.std.specs.Prelude.{◌&&◌}
use Rattle.symbols.specs.Kinds.{Kind}
use Rattle.symbols.specs.declared.kinds.Pair.{Pair}

abbrev pub pair_of : {A B : Type 0} → A → B → Pair A B
pair_of a b = record { first = a; second = b }

abbrev pub pair_kind : {A B : Type 0} → Kind A → Kind B → Kind (Pair A B)
pair_kind K L = record {
  zero = pair_of K.zero L.zero;
  unit = pair_of K.unit L.zero;
  sum = λ x y. pair_of (K.sum x.first y.first) (L.sum x.second y.second);
  is_zero = λ x. K.is_zero x.first && L.is_zero x.second;
}

-- The figure lies between: what `IsFigure` says of the quotient.
use Rattle.std.proofs.Common.{ℕ, ◌*◌, ◌/◌, ◌<◌, sym, add-mul, one-mul, div-mul-le_self, arith}
use native.Mathlib.Nat.{lt-div-mul-add, div-eq_of_lt-le}
use Rattle.packets.specs.Figure.{IsFigure}

pub quotient_is_figure : (received n : ℕ) → 0 < n → IsFigure received n (received * 100 / n)
quotient_is_figure received n some = record {
  none = λ e. absurd (omega arith);
  between = λ _. (div-mul-le_self (received * 100) n, rw (add-mul, one-mul) (lt-div-mul-add some));
  one = λ f h. sym (div-eq_of_lt-le n h.0 h.1);
}

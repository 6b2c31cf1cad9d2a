use Rattle.std.proofs.Common.{◌≡◌, ◌*◌, ◌++◌, length, take, drop}
use Rattle.script.specs.Hex.{digits_of}
use Rattle.script.proofs.hex.digits.Given as goal

abbrev pub invariant-loop-i : goal.invariant-loop-i
invariant-loop-i l = (length l.text ≡ 64) × (take (2 * l.i) l.text ++ digits_of (drop l.i l.bytes) ≡ digits_of l.bytes)

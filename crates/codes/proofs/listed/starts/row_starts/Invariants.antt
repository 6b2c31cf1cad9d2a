use Rattle.std.proofs.Common.{◌≡◌, ℕ, ◌-◌, ◌<◌, length, get_or}
use Rattle.codes.specs.Records.{lower}
use Rattle.codes.proofs.listed.starts.row_starts.Given as goal

abbrev pub invariant-loop-r : goal.invariant-loop-r
invariant-loop-r l = record {
  long : length l.start-items ≡ 257;
  counted : l.p ≡ lower l.records (l.r - 1);
  begun : (k : ℕ) → k < l.r → get_or l.start-items k 0 ≡ lower l.records k;
}

use Rattle.std.proofs.Common.{◌≡◌, drop, None}
use Rattle.codes.specs.Records.{first_bad}
use Rattle.codes.proofs.listed.making.first_bad.Given as goal

abbrev pub invariant-loop-i : goal.invariant-loop-i
invariant-loop-i l = first_bad l.m l.n l.last l.i (drop l.i l.records) ≡ first_bad l.m l.n None 0 l.records

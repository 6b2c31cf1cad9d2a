use Rattle.std.proofs.Common.{min, true, length, ap, arith}
use Rattle.std.proofs.lemmas.List.{length-replicate}
use Rattle.method.proofs.Counts.{count_le}
use Rattle.policies.specs.Shown.{shown}
use Rattle.policies.proofs.Marks.{length_shown}
use Rattle.search.proofs.heard.Heard.begin.Goals as goal

pub invariant_of-result-3 : goal.invariant_of-result-3
invariant_of-result-3 g c =
    let all = c.all.result in
    let active = c.missing.result in
    let none = ap length c.new.ensures in
    record {
      high = omega (arith, length_shown all, ap length c.all.ensures, length-replicate (min (length c.args.sides.now) 512) true, c.requires.few);
      few = c.requires.few;
      within = c.requires.within;
      long = omega arith;
      room = omega (arith, none, count_le (shown active), length_shown active, active.narrow);
      low = λ i l. absurd (omega (arith, none));
    }

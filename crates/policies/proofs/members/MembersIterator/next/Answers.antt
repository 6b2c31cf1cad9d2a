use Rattle.std.proofs.Common.{false, sym, ap, ◌∙◌, arith}
use Rattle.method.specs.Sets.{count}
use Rattle.method.proofs.Counts.{count_clear}
use Rattle.method.proofs.Marks.{lowest_some}
use Rattle.policies.specs.Shown.{shown}
use Rattle.policies.proofs.members.MembersIterator.next.Goals as goal

pub returns-clause-goes : goal.returns-clause-goes
returns-clause-goes c =
    let s = shown c.args.self.now.left in
    let here = (lowest_some (λ b. b) false s c.in_ok-c.c (sym c.least.ensures ∙ c.in_ok-c.was)).0 in
    record {
      on = λ finite. (tt, tt, omega (arith, ap count c.leave.ensures, count_clear s c.in_ok-c.c here));
      keeps = tt;
      rests = λ finite. tt;
    }

use Rattle.std.proofs.Common.{◌∙◌, arith}
use Rattle.policies.proofs.Marks.{shown_below}
use Rattle.search.proofs.Keeping.{kept_held}
use Rattle.search.proofs.elimination.Elimination.active_holders.Goals as goal

pub kept_for-requires : goal.kept_for-requires
kept_for-requires g c =
    let e = c.args.self.now in
    record {
      column = omega (arith, shown_below e.active c.args.c c.requires.active, e.active.narrow);
      few = e.few;
      none = c.requires.going.kept.none c.args.c;
    }

pub returns : goal.returns
returns g c = c.kept_for.ensures ∙ kept_held c.requires.going.kept c.args.c c.requires.active

use Rattle.std.proofs.Common.{length, sym, ap, ◌∙◌, arith}
use lib.Bits.{bit_and}
use Rattle.std.proofs.lemmas.Simd.{length-zip2}
use Rattle.policies.specs.Shown.{marks_of}
use Rattle.policies.proofs.Marks.{shared_within, shown_shared}
use Rattle.policies.proofs.columns.Columns.both.Goals as goal

pub invariant_of-result : goal.invariant_of-result
invariant_of-result c =
    let s = c.args.self.now in
    let t = c.args.other.now in
    let e = c.shared.ensures in
    record {
      eight = ap length e ∙ length-zip2 bit_and s.words t.words (s.eight ∙ sym t.eight) ∙ s.eight;
      narrow = omega (arith, c.min.ensures, s.narrow);
      within = rw e (shared_within s t c.min.result c.min.ensures);
    }

pub returns : goal.returns
returns c =
    ap (marks_of c.min.result) c.shared.ensures ∙ shown_shared c.args.self.now c.args.other.now c.min.result c.min.ensures

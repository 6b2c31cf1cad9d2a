use Rattle.std.proofs.Common.{◌≡◌, ℕ, ◌+◌, ◌-◌, ◌<◌, ◌≢◌, length, drop, sym, refl, ap, ◌∙◌, arith, length-set, length-drop, take_all, get_or-set_other, get_or-set_same, below_more}
use Rattle.codes.specs.Records.{lower}
use Rattle.codes.proofs.Starts.{begun, lower_zero, lower_more}
use Rattle.codes.proofs.listed.starts.row_starts.Goals as goal
use Rattle.codes.proofs.listed.starts.row_starts.Goals.{After-lower-p}

pub loop-r-init : goal.loop-r-init
loop-r-init c = record { long = refl; counted = sym (lower_zero c.args.records.now); begun = λ k h. absurd (omega arith) }

-- what is counted with the records of the row before
counted : (c : After-lower-p) → c.loop-r.p + c.lower-p.result ≡ lower c.args.records.now c.loop-r.r
counted c =
    let rs = c.args.records.now in
    let p : ℕ = c.loop-r.p in
    let r : ℕ = c.loop-r.r in
    let rest = c.lower-p.ensures ∙ ap (λ ks. lower ks r) (take_all (length rs - p) (drop p rs) (omega (arith, length-drop p rs))) in
    ap (λ n. p + n) rest ∙ ap (λ n. n + lower (drop n rs) r) c.loop-r.invariant.counted ∙ lower_more rs (r - 1) r (omega arith)

pub loop-r-preserved : goal.loop-r-preserved
loop-r-preserved c =
    let starts = c.loop-r.start-items in
    let r : ℕ = c.loop-r.r in
    let inv = c.loop-r.invariant in
    let there : r < length starts = omega arith in
    let here : r + 1 - 1 ≡ r = omega arith in
    record {
      long = length-set starts r _ ∙ inv.long;
      counted = counted c ∙ ap (lower c.args.records.now) (sym here);
      begun = below_more _ _ (λ k h. let ne : k ≢ r = omega arith in get_or-set_other starts r k _ 0 ne ∙ inv.begun k h) (get_or-set_same starts r _ 0 there ∙ counted c);
    }

pub returns-clause-begun : goal.returns-clause-begun
returns-clause-begun c =
    begun c.args.records.now 0 c.loop-r.start-items (λ k h. let e : k ≡ 0 + k = omega arith in c.loop-r.invariant.begun k (omega arith) ∙ ap (lower c.args.records.now) e)

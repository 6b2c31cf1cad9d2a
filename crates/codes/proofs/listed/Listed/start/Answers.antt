use Rattle.std.proofs.Common.{rules, ◌≡◌, ℕ, ◌+◌, ◌<◌, ◌≤◌, length, get_or, cond, ltb, sym, ap, ◌∙◌, subst, ⊎_elim, arith}
use Rattle.std.proofs.lemmas.Bool.{cases_lt, cond-true, cond-false, lt-ltb, le-ltb}
use Rattle.codes.specs.RecordLaws.{sizes, listed_rising}
use Rattle.codes.specs.Records.{lower, Parts}
use Rattle.codes.proofs.Segments as segments
use Rattle.codes.proofs.Starts.{all_lower, begins, lower_parts}
use Rattle.codes.proofs.listed.Listed.start.Goals as goal

pub returns : goal.returns
returns c =
    let x = c.args.self.now in
    let rs = x.records.now in
    let r : ℕ = c.args.r in
    let p : ℕ = c.map_or.result in
    let up = listed_rising x.m x.n rs x.sized x.rising in
    let z = sizes x.m x.n x.sized in
    let e : p ≡ cond (ltb r (length x.starts)) (get_or x.starts r 0) (length rs) = search rules in
    let here : 0 + r ≡ r = omega arith in
    segments.start x.m x.n rs z.few_columns up r p
    (⊎_elim
    (λ (l : r < length x.starts). lower_parts x.m x.n rs z.few_columns up r p (e ∙ cond-true _ _ _ (lt-ltb _ _ l) ∙ begins rs 0 x.starts r x.begun l ∙ ap (lower rs) here))
    (λ (l : length x.starts ≤ r). subst (Parts rs r) (sym (e ∙ cond-false _ _ _ (le-ltb _ _ l))) (all_lower x.m x.n rs up r (omega (arith, z.few_rows, x.every))))
    (cases_lt r (length x.starts)))

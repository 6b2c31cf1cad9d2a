use Rattle.std.proofs.Common.{◌≡◌, ◌+◌, [], ◌∷◌, ◌++◌, ap, length, map, vec_items, ◌∙◌, subst, refl, rules}
use Rattle.dialogue.specs.Beginnings.{Begins}
use Rattle.dialogue.specs.Lines.{Cut}
use Rattle.dialogue.specs.Scores.{line, Line.told}
use Rattle.dialogue.proofs.Beginnings.{lines_more, ends, passed, no_call, says_symbols, says_another}
use Rattle.dialogue.proofs.beginning.begin.Goals as goal

pub loop-number-init : goal.loop-number-init
loop-number-init c = (
  record {
    lines = [];
    cuts = (refl, c.requires.first);
    all = tt;
    told_as = ap (map line) c.requires.none;
  },
  refl,
  refl,
)

pub returns : goal.returns
returns c =
    let inv = c.loop-number.invariant in
    let none : length c.loop-number.ahead.rest.now ≡ 0 = search rules in
    ends inv.0 (subst (λ t. length t ≡ 0) inv.1 none)

pub returns-in-Symbols : goal.returns-in-Symbols
returns-in-Symbols c =
    let inv = c.loop-number.invariant in
    let steps = c.in-Some.ensures.steps in
    let cut = subst (λ t. Cut t c.in-Some.line.now c.next.new.self.rest.now) inv.1 steps.0 in
    let is = subst (λ f. Begins c.in-Some.number c.in-Some.line.now f) c.in-Symbols.is c.in_ok-first_line.ensures in
    says_symbols c.in-Some.number _ inv.0 cut c.in-Symbols.name (steps.2 ∙ ap (λ n. n + 1) inv.2) is.0 is.1 (lines_more _ _ _ c.in_ok-push-in-Symbols.ensures.items ∙ search rules)

pub returns-in-OtherCall : goal.returns-in-OtherCall
returns-in-OtherCall c =
    let inv = c.loop-number.invariant in
    let steps = c.in-Some.ensures.steps in
    let cut = subst (λ t. Cut t c.in-Some.line.now c.next.new.self.rest.now) inv.1 steps.0 in
    let is = subst (λ f. Begins c.in-Some.number c.in-Some.line.now f) c.in-OtherCall.is c.in_ok-first_line.ensures in
    says_another 0 0 inv.0 cut is.0 is.1.0 is.1.1 is.1.2

pub loop-number-preserved-in-PassedOver : goal.loop-number-preserved-in-PassedOver
loop-number-preserved-in-PassedOver c =
    let inv = c.loop-number.invariant in
    let steps = c.in-Some.ensures.steps in
    let cut = subst (λ t. Cut t c.in-Some.line.now c.next.new.self.rest.now) inv.1 steps.0 in
    let is = subst (λ f. Begins c.in-Some.number c.in-Some.line.now f) c.in-PassedOver.is c.in_ok-first_line.ensures in
    (passed c.in-Some.number _ inv.0 cut (steps.1 ∙ ap (λ n. n + 1) inv.2) (steps.2 ∙ ap (λ n. n + 1) inv.2) is, refl, refl)

pub loop-number-preserved : goal.loop-number-preserved
loop-number-preserved c =
    let inv = c.loop-number.invariant in
    let steps = c.in-Some.ensures.steps in
    let cut = subst (λ t. Cut t c.in-Some.line.now c.next.new.self.rest.now) inv.1 steps.0 in
    let is = subst (λ f. Begins c.in-Some.number c.in-Some.line.now f) c.in-NoCall.is c.in_ok-first_line.ensures in
    (no_call c.in-Some.number _ inv.0 cut (steps.1 ∙ ap (λ n. n + 1) inv.2) (steps.2 ∙ ap (λ n. n + 1) inv.2) is.0 is.1 (lines_more _ _ _ c.in_ok-push-in-NoCall.ensures.items ∙ ap (λ t. map line (vec_items c.loop-number.answers) ++ (told t ∷ [])) is.2), refl, refl)

use Rattle.std.proofs.Common.{◌≡◌, ℕ, List, IfOk, string_bytes, sym, ap, ◌∙◌, subst}
use Rattle.std.specs.Option.{option_map}
use Rattle.piles.specs.Answers.{row_text}
use Rattle.piles.proofs.Refused.{no_row}
use Rattle.piles.proofs.calls.tell_row.Goals as goal

pub returns-in-Err : goal.returns-in-Err
returns-in-Err c =
    subst (λ (t : List ℕ). IfOk c.no_code-in-Err.result (λ s. string_bytes s ≡ t))
    (no_row _ c.args.r _ c.in-Err.field-0 c.in-Err.ensures ∙ sym (ap (λ h. row_text c.args.r (option_map (λ p. p.now) h)) c.in-Some.is))
    c.no_code-in-Err.ensures

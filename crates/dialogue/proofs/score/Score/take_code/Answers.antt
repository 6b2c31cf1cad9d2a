use Rattle.std.proofs.Common.{◌≡◌, ◌++◌, [], ◌∷◌, length, Some, Ok, Err, Result, refl, rules}
use Rattle.codes.specs.Matrix.{Matrix}
use Rattle.codes.specs.Refusals.{Cause, told}
use Rattle.codes.specs.declared.refusal.Refusal.{Refusal}
use Rattle.codes.specs.declared.shape.Shape.{Shape}
use Rattle.piles.specs.Piles.{pile_code, shape_told}
use Rattle.piles.specs.declared.pile.Pile.{Pile}
use Rattle.dialogue.specs.Scores.{Part, made, with_code, part}
use Rattle.dialogue.proofs.score.Score.take_code.Goals as goal

-- where the sizes of a code are told it is in hand, and where they are not nothing is
made_told : {S : Type 0} (p : Pile) (m : Result Matrix Cause) (s : Shape) (x : Part S) → told (Ok s) ≡ shape_told m
    → made p m x ≡ record { codes = x.codes ++ (p ∷ []); calls = x.calls; answers = x.answers; held = with_code (Some (length x.codes)) x.held }
made_told p (Ok k) s x e = refl
made_told p (Err c) s x e = search (rules, e)

made_untold : {S : Type 0} (p : Pile) (m : Result Matrix Cause) (r : Refusal) (x : Part S) → told (Err r) ≡ shape_told m → made p m x ≡ x
made_untold p (Ok k) r x e = search (rules, e)
made_untold p (Err c) r x e = refl

pub returns-in_ok-code_text-in-Ok : goal.returns-in_ok-code_text-in-Ok
returns-in_ok-code_text-in-Ok g c = search (rules, made_told c.args.pile (pile_code c.args.pile) c.in-Ok.shape (part c.args.self.now) c.in-Ok.ensures.sizes)

pub returns-in_ok-code_text-in-Err : goal.returns-in_ok-code_text-in-Err
returns-in_ok-code_text-in-Err g c = search (rules, made_untold c.args.pile (pile_code c.args.pile) c.in-Err.refusal (part c.args.self.now) c.in-Err.ensures.sizes)

-- The lines of a script, cut off and read one after the other.
use Rattle.std.proofs.Common.{◌≡◌, ℕ, ◌+◌, List, [], ◌∷◌, ◌++◌, refl, ap, ◌∙◌, subst}
use Rattle.dialogue.specs.Lines.{Cut, Numbered, Cuts}
use Rattle.dialogue.specs.Scores.{Part}
use Rattle.dialogue.specs.Scripts.{ReadsOne, Reads}
use Rattle.dialogue.specs.Symbols.{Spelling}

-- one more line is cut off
pub cuts_more : (text : List ℕ) (k : ℕ) (ls : List Numbered) (rest : List ℕ) (k' : ℕ) (l : Numbered) (behind : List ℕ) (k'' : ℕ)
    → Cuts text k ls rest k' → Cut rest l.text behind → l.number ≡ k' + 1 → k'' ≡ k' + 1 → Cuts text k (ls ++ (l ∷ [])) behind k''
cuts_more text k [] rest k' l behind k'' c cut number next =
    (behind, subst (λ t. Cut t l.text behind) c.0 cut, number ∙ ap (λ n. n + 1) c.1, (refl, next ∙ ap (λ n. n + 1) c.1))
cuts_more text k (m ∷ ls) rest k' l behind k'' c cut number next =
    (c.0, c.1, c.2, cuts_more c.0 (k + 1) ls rest k' l behind k'' c.3 cut number next)

-- one more line is read
pub reads_more : {S : Type 0} (sp : Spelling S) (x : Part S) (ls : List Numbered) (y : Part S) (l : Numbered) (z : Part S) → Reads sp x ls y → ReadsOne sp y l z → Reads sp x (ls ++ (l ∷ [])) z
reads_more sp x [] y l z e one = (z, subst (λ v. ReadsOne sp v l z) e one, refl)
reads_more sp x (m ∷ ls) y l z r one = (r.0, r.1, reads_more sp r.0 ls y l z r.2 one)

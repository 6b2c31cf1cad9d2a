-- The lines of a script.
--
--   CutAt, Cut    a text is cut behind its first line, which may lack its newline
--   Numbered      a line with its number
--   Cuts          so many lines are cut off a text
--   NextLine      the next line of a script with its number, and what is left behind it
use Rattle.std.specs.Borrow.{Bor}
use Rattle.std.specs.Prelude.{◌≡◌, ℕ, ◌+◌, ◌<◌, List, [], ◌∷◌, length, Some, None, Option}
use Rattle.script.specs.Words.{cut_at}

abbrev pub CutAt : Option (List ℕ × List ℕ) → List ℕ → List ℕ → List ℕ → Type 0
CutAt None text line rest = (line ≡ text) × (rest ≡ [])
CutAt (Some p) text line rest = (line ≡ p.0) × (rest ≡ p.1)

pub record Cut (text line rest : List ℕ) : Type 0 where
  pub cut : CutAt (cut_at 10 text) text line rest
  pub shorter : length rest < length text

abbrev pub NextLine : List ℕ → ℕ → Option (ℕ × Bor (List ℕ)) → List ℕ → ℕ → Type 0
NextLine text before None rest before' = (length text ≡ 0) × (rest ≡ text) × (before' ≡ before)
NextLine text before (Some p) rest before' = Cut text p.1.now rest × (p.0 ≡ before + 1) × (before' ≡ before + 1)

pub record Numbered : Type 0 where
  pub number : ℕ
  pub text : List ℕ

-- these lines stand at the front of a text, behind so many others; and what is left
abbrev pub Cuts : List ℕ → (before : ℕ) → List Numbered → List ℕ → (before' : ℕ) → Type 0
Cuts text k [] rest k' = (rest ≡ text) × (k' ≡ k)
Cuts text k (l ∷ ls) rest k' = (behind : List ℕ) × Cut text l.text behind × (l.number ≡ k + 1) × Cuts behind (k + 1) ls rest k'

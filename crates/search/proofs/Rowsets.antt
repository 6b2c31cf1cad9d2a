-- The words of a row and a set: what they share, as marks.
use Rattle.std.proofs.Common.{◌≡◌, ℕ, ◌<◌, ◌≤◌, Bool, false, ◌&&◌, List, length, Option, sym, ap, ◌∙◌, ⊎_elim}
use Rattle.std.proofs.lemmas.Bool.{cases_lt, and_right}
use Rattle.bits.specs.Sets.{holds, ands, Least}
use Rattle.bits.proofs.Found.{least_like}
use Rattle.bits.proofs.Held.{holds_ands}
use Rattle.method.specs.Sets.{has, meet, lowest}
use Rattle.method.proofs.Marks.{has_meet}
use Rattle.policies.specs.declared.columns.Columns.{Columns}
use Rattle.policies.specs.Shown.{marks_of, shown}
use Rattle.policies.proofs.Marks.{marks_at, has_shown, lowest_least, least_same}

module _ (xs : List ℕ) (s : Columns) (eight : length xs ≡ 8) where
  shared_at : (c : ℕ) → has (meet (marks_of s.width xs) (shown s)) c ≡ holds (ands xs s.words) c
  shared_at c =
      has_meet (marks_of s.width xs) (shown s) c ∙ ap (λ b. has (marks_of s.width xs) c && b) (has_shown s c)
      ∙ ⊎_elim
      (λ (l : c < s.width). ap (λ b. b && holds s.words c) (marks_at s.width xs c false l) ∙ sym both)
      (λ (l : s.width ≤ c). and_right _ _ (s.within c l) ∙ sym (both ∙ and_right _ _ (s.within c l)))
      (cases_lt c s.width)
    where
      both : holds (ands xs s.words) c ≡ (holds xs c && holds s.words c)
      both = holds_ands xs s.words (eight ∙ sym s.eight) c

  pub lowest_shared : (o : Option ℕ) → Least (holds (ands xs s.words)) o → o ≡ lowest (λ b. b) (meet (marks_of s.width xs) (shown s))
  lowest_shared o h =
      let both : List Bool = meet (marks_of s.width xs) (shown s) in
      least_same (has both) o (lowest (λ b. b) both) (least_like (has both) (holds (ands xs s.words)) shared_at o h) (lowest_least both)

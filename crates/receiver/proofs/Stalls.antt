-- Sets of places that agree place by place have the same stopping sets, and columns are named in turn alike.
use Rattle.std.proofs.Common.{◌≡◌, ℕ, Bool, List, [], ◌∷◌, sym, ◌∙◌}
use Rattle.codes.specs.Matrix.{Matrix}
use Rattle.method.specs.Stopping.{Stopping, Left, NamedInTurn}
use Rattle.receiver.proofs.Counting.{no_same}

module _ (k : Matrix) (f g : ℕ → Bool) (same : (c : ℕ) → f c ≡ g c) where
  pub stopping_on : (s : ℕ → Bool) → Stopping k f s → Stopping k g s
  stopping_on s u = record { some_place = u.some_place; among = λ c is. sym (same c) ∙ u.among c is; none_alone = u.none_alone }

  pub stopping_back : (s : ℕ → Bool) → Stopping k g s → Stopping k f s
  stopping_back s u = record { some_place = u.some_place; among = λ c is. same c ∙ u.among c is; none_alone = u.none_alone }

  left_on : (l : ℕ → Bool) → Left k f l → Left k g l
  left_on l u = record { among = λ c is. sym (same c) ∙ u.among c is; none_alone = u.none_alone; most = λ part a n. u.most part (λ c is. same c ∙ a c is) n }

  pub named_on : (cs : List ℕ) → NamedInTurn k f cs → NamedInTurn k g cs
  named_on [] u = no_same stopping_on stopping_back u
  named_on (c ∷ cs) u = (u.0, left_on u.0 u.1, u.2, u.3)

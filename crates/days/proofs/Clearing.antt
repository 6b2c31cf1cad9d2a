-- What orders leave in working memory: it stays as it was, or its first elements are zero.
use Rattle.std.proofs.Common.{◌≡◌, ℕ, ◌*◌, min, List, ◌++◌, length, drop, replicate, Some, None, Option, sym, refl, ap, ap₂, ◌∙◌, subst, inl, inr, arith}
use Rattle.std.proofs.lemmas.List.{drop_min, length-append, length-drop, length-replicate}
use Rattle.std.proofs.lemmas.Slice.{drop-append-drop}
use Rattle.symbols.specs.Kinds.{Kind}
use Rattle.codes.specs.Matrix.{Matrix, height}
use Rattle.method.specs.Method.{Choice}
use Rattle.search.specs.Found.{wiped}
use Rattle.receiver.specs.declared.fault.Fault.{Fault}
use Rattle.receiver.specs.Calls.{refusal}
use Rattle.receiver.specs.Calls.Call.{solve}
use Rattle.receiver.specs.Blocks.{Block, seen}
use Rattle.receiver.specs.Solves.{Done, search_of, solved, solved_by}
use Rattle.days.specs.Days.{Cleared}

-- what is wiped twice is wiped
wiped_again : {X : Type 0} (z : X) (m : ℕ) (xs : List X) → wiped z m (wiped z m xs) ≡ wiped z m xs
wiped_again z m xs =
    let k = min m (length xs) in
    let front = replicate k z in
    let long : length (front ++ drop k xs) ≡ length xs = omega (arith, length-append front (drop k xs), length-replicate k z, length-drop k xs) in
    let same : front ++ drop m xs ≡ front ++ drop k xs = ap (λ ys. front ++ ys) (sym (drop_min m xs)) in
    ap (wiped z m) same
    ∙ ap₂ (λ n ys. replicate (min m n) z ++ ys) long (drop-append-drop k xs front m (omega arith) (length-replicate k z))

pub cleared_then : {X : Type 0} (z : X) (m : ℕ) (xs ys zs : List X) → Cleared z m xs ys → Cleared z m ys zs → Cleared z m xs zs
cleared_then z m xs ys zs (inl e) c = subst (λ ys. Cleared z m ys zs) e c
cleared_then z m xs ys zs (inr e) (inl f) = inr (f ∙ e)
cleared_then z m xs ys zs (inr e) (inr f) = inr (f ∙ ap (wiped z m) e ∙ wiped_again z m xs)

module _ {S P : Type 0} (K : Kind S) (choice : Matrix → Choice P) (k : Matrix) (m : Block S) (p : P) (ws : List ℕ) (ss : List S) where
  words_by : (o : Option Fault) → Cleared 0 (8 * height k) ws (solved_by K choice k m p o ws ss).words
  words_by None = inr refl
  words_by (Some f) = inl refl

  sides_by : (o : Option Fault) → Cleared K.zero (height k) ss (solved_by K choice k m p o ws ss).sides
  sides_by None = inr refl
  sides_by (Some f) = inl refl

  pub cleared_words : (d : Done S P) → d ≡ solved K choice k m p ws ss → Cleared 0 (8 * height k) ws d.words
  cleared_words d e = subst (λ d. Cleared 0 (8 * height k) ws d.words) (sym e) (words_by (refusal K (seen m) (solve (search_of k (length ws) (length ss)))))

  pub cleared_sides : (d : Done S P) → d ≡ solved K choice k m p ws ss → Cleared K.zero (height k) ss d.sides
  cleared_sides d e = subst (λ d. Cleared K.zero (height k) ss d.sides) (sym e) (sides_by (refusal K (seen m) (solve (search_of k (length ws) (length ss)))))

-- The words of a line, read one after the other.
use Rattle.std.proofs.Common.{◌≡◌, ℕ, zero, suc, ◌-◌, ◌<◌, ◌≤◌, List, [], ◌∷◌, ◌++◌, length, Some, None, Option, sym, refl, ap, ◌∙◌, ⊎_elim, append_assoc, append-nil, length-take, length-drop, arith}
use Rattle.std.proofs.lemmas.Bool.{cond-true, cond-false, cases_eq, eq-eqb, ne_eqb}
use Rattle.std.specs.List.{position_or_len}
use Rattle.script.specs.Words.{separates, in_word, skip, first_word, after_word}
use Rattle.piles.specs.Readings.{paired, words_of, each_of}

-- items that were read before others
abbrev pub after : {A : Type 0} → List A → Option (List A) → Option (List A)
after xs None = None
after xs (Some ys) = Some (xs ++ ys)

after_item : {A : Type 0} (xs : List A) (x : A) (o : Option (List A)) → after (xs ++ x ∷ []) o ≡ after xs (paired ◌∷◌ (Some x) o)
after_item xs x None = refl
after_item xs x (Some ys) = ap Some (append_assoc xs (x ∷ []) ys)

pub after_none : {A : Type 0} (xs : List A) (o : Option (List A)) → xs ≡ [] → after xs o ≡ o
after_none xs None e = refl
after_none xs (Some ys) e = ap (λ zs. Some (zs ++ ys)) e

-- a word is no longer than its line, and one that is taken off leaves a shorter line
no_longer : (line : List ℕ) → length (first_word line) ≤ length line
no_longer line =
    let text = skip line in
    let word = length-take (position_or_len separates text) text in
    let gap = length-drop (position_or_len in_word line) line in
    omega arith

shorter : (line : List ℕ) → (length (first_word line) ≡ 0 → ⊥) → length (after_word line) < length line
shorter line some =
    let text = skip line in
    let word = length-take (position_or_len separates text) text in
    let rest = length-drop (position_or_len separates text) text in
    let gap = length-drop (position_or_len in_word line) line in
    omega arith

words_none : (n : ℕ) (line : List ℕ) → length (first_word line) ≡ 0 → words_of n line ≡ []
words_none zero line e = refl
words_none (suc n) line e = cond-true _ _ _ (eq-eqb (length (first_word line)) 0 e)

words_some : (n : ℕ) (line : List ℕ) → (length (first_word line) ≡ 0 → ⊥) → words_of (suc n) line ≡ first_word line ∷ words_of n (after_word line)
words_some n line some = cond-false _ _ _ (ne_eqb (length (first_word line)) 0 some)

-- a line has no more words than bytes
words_enough : (n m : ℕ) (line : List ℕ) → length line ≤ n → length line ≤ m → words_of n line ≡ words_of m line
words_enough zero m line h k = sym (words_none m line (omega (arith, no_longer line)))
words_enough (suc n) zero line h k = words_none (suc n) line (omega (arith, no_longer line))
words_enough (suc n) (suc m) line h k =
    ⊎_elim
    (λ (e : length (first_word line) ≡ 0). words_none (suc n) line e ∙ sym (words_none (suc m) line e))
    (λ (some : length (first_word line) ≡ 0 → ⊥).
    let less = shorter line some in
    words_some n line some ∙ ap (λ ws. first_word line ∷ ws) (words_enough n m (after_word line) (omega arith) (omega arith)) ∙ sym (words_some m line some))
    (cases_eq (length (first_word line)) 0)

words_next : (line : List ℕ) → (length (first_word line) ≡ 0 → ⊥) → words_of (length line) line ≡ first_word line ∷ words_of (length (after_word line)) (after_word line)
words_next line some =
    let less = shorter line some in
    let e : length line ≡ suc (length line - 1) = omega arith in
    ap (λ n. words_of n line) e
    ∙ words_some (length line - 1) line some
    ∙ ap (λ ws. first_word line ∷ ws) (words_enough (length line - 1) (length (after_word line)) (after_word line) (omega arith) (omega arith))

module _ {A : Type 0} (f : List ℕ → Option A) (xs : List A) (line : List ℕ) where
  -- one more item is read, or a word writes none
  pub item_read : (x : A) → (length (first_word line) ≡ 0 → ⊥) → f (first_word line) ≡ Some x → after (xs ++ x ∷ []) (each_of f (words_of (length (after_word line)) (after_word line))) ≡ after xs (each_of f (words_of (length line) line))
  item_read x some is =
      after_item xs x (each_of f (words_of (length (after_word line)) (after_word line)))
      ∙ ap (λ o. after xs (paired ◌∷◌ o (each_of f (words_of (length (after_word line)) (after_word line))))) (sym is)
      ∙ ap (λ ws. after xs (each_of f ws)) (sym (words_next line some))

  pub no_item : (length (first_word line) ≡ 0 → ⊥) → f (first_word line) ≡ None → after xs (each_of f (words_of (length line) line)) ≡ None
  no_item some is =
      ap (λ ws. after xs (each_of f ws)) (words_next line some)
      ∙ ap (λ o. after xs (paired ◌∷◌ o (each_of f (words_of (length (after_word line)) (after_word line))))) is

  -- all words are read
  pub no_word : length (first_word line) ≡ 0 → after xs (each_of f (words_of (length line) line)) ≡ Some xs
  no_word e = ap (λ ws. after xs (each_of f ws)) (words_none (length line) line e) ∙ ap Some (append-nil xs)

-- The shortfall goes by the code and the missing places alone, and no answer by the policy.
use Rattle.std.proofs.Common.{◌≡◌, ℕ, zero, suc, ◌^◌, ◌<◌, ◌≤◌, Bool, true, false, not, ◌⊎◌, List, [], ◌∷◌, length, get_or, Some, None, Option, sym, refl, ap, ◌∙◌, inl, inr, arith}
use native.Mathlib.Nat.{two-pow-succ, one-le-pow, pow-le-pow_right}
use Rattle.std.specs.List.{AllByRecursion}
use Rattle.std.proofs.lemmas.Bool.{true≢false, false≢true, not-true, not_from_false, cases_lt, cases_Bool}
use Rattle.symbols.specs.Kinds.{Kind, Laws}
use Rattle.codes.specs.Matrix.{Matrix, Lawful}
use Rattle.method.specs.Sets.{differs, table, lowest}
use Rattle.method.specs.Method.{State, Choice, one, several, clash, filled, final, answer_at, answer, method}
use Rattle.method.specs.Choices.{Naming}
use Rattle.method.specs.Fillings.{Agreeing, says_none, uncounted, Exactly, Listing}
use Rattle.method.specs.Theorems.{TwoValued, ShortfallByPlacesAlone, PolicyAltersNoAnswer}
use Rattle.method.proofs.Marks.{length_table}
use Rattle.method.proofs.Sums.{sum_of}
use Rattle.method.proofs.Tells.{tells_exactly}
use Rattle.method.proofs.Shape.{shape}
use Rattle.method.proofs.Listings.{listing_same}
use Rattle.method.proofs.Doubling.{doubles}

-- the kind of two values, by which the codewords that agree are counted
abbrev bit : Kind Bool
bit = record { zero = false; unit = true; sum = differs; is_zero = not }

bit_laws : Laws bit
bit_laws = record {
  sums = record { associative = associative; commutative = commutative; identity = λ x. refl };
  cancels = cancels;
  distinct = true≢false;
  tells_zero = λ x. (not-true x, not_from_false x);
}
  where
    associative : (x y z : Bool) → differs (differs x y) z ≡ differs x (differs y z)
    associative true true true = refl
    associative true true false = refl
    associative true false z = refl
    associative false y z = refl

    commutative : (x y : Bool) → differs x y ≡ differs y x
    commutative true true = refl
    commutative true false = refl
    commutative false true = refl
    commutative false false = refl

    cancels : (x : Bool) → differs x x ≡ false
    cancels true = refl
    cancels false = refl

bit_two : TwoValued bit
bit_two true = inr refl
bit_two false = inl refl

-- the filling with zeros is a codeword, and agrees where zeros were received
zero_at : (n c : ℕ) → get_or (table n (λ _. false)) c false ≡ false
zero_at zero c = refl
zero_at (suc n) zero = refl
zero_at (suc n) (suc c) = zero_at n c

zero_sum : (n : ℕ) (row : List ℕ) → sum_of bit (table n (λ _. false)) row ≡ false
zero_sum n [] = refl
zero_sum n (c ∷ cs) = ap (λ x. differs x (sum_of bit (table n (λ _. false)) cs)) (zero_at n c) ∙ zero_sum n cs

zero_sums : (n : ℕ) (rows : List (List ℕ)) → AllByRecursion (λ row. sum_of bit (table n (λ _. false)) row ≡ false) rows
zero_sums n [] = tt
zero_sums n (row ∷ rows) = (zero_sum n row, zero_sums n rows)

zero_agrees : (k : Matrix) (got : List Bool) → Agreeing bit k got [] (table k.width (λ _. false))
zero_agrees k got = record {
  codeword = record { wide = length_table k.width (λ _. false); sums = zero_sums k.width k.rows };
  agrees = λ c h. zero_at k.width c;
}

pow_le : (a b : ℕ) → 2 ^ a ≤ 2 ^ b → a ≤ b
pow_le a b h = elim (cases_lt b a) [ inr l ↦ l | inl l ↦ absurd (go l) ]
  where
    go : b < a → ⊥
    go l =
        let up : 2 ^ suc b ≤ 2 ^ a = pow-le-pow_right (omega arith) (omega arith) in
        omega (arith, up, two-pow-succ b, one-le-pow b 2 (omega arith))

frees : {S : Type 0} (K : Kind S) {P : Type 0} (choice : Choice P) (k : Matrix) (got : List Bool) (syms : List S) (p : P)
    → (final K choice k got syms p).free ≡ (final bit choice k got [] p).free
frees K choice k got syms p =
    ap (λ s. s.free) (shape K choice k got syms p) ∙ sym (ap (λ s. s.free) (shape bit choice k got [] p))

-- as many fillings agree with zeros received as two to the number of free pivots
zeros_listing : {P : Type 0} (choice : Choice P) → Naming choice → (k : Matrix) → Lawful k → (got : List Bool) → length got ≡ k.width → (p : P)
    → Listing (Agreeing bit k got []) (2 ^ length (final bit choice k got [] p).free)
zeros_listing choice naming k ok got wide p = doubles bit_laws bit_two choice naming k ok got wide [] p (go (cases_Bool (says_none (method bit choice k got [] p))))
  where
    go : (says_none (method bit choice k got [] p) ≡ true) ⊎ (says_none (method bit choice k got [] p) ≡ false) → says_none (method bit choice k got [] p) ≡ false
    go (inl h) = absurd ((tells_exactly bit_laws choice naming k ok got wide [] p).none_when.0 h (table k.width (λ _. false)) (zero_agrees k got))
    go (inr h) = h

pub shortfall_by_places_alone : (S : Type 0) (K : Kind S) (P S' : Type 0) (K' : Kind S') (P' : Type 0) → ShortfallByPlacesAlone S K P S' K' P'
shortfall_by_places_alone S K P S' K' P' choice naming other naming' k ok got wide syms p symbols q =
    ap length (frees K choice k got syms p)
    ∙ both (listing_same _ _ (zeros_listing choice naming k ok got wide p) (zeros_listing other naming' k ok got wide q))
    ∙ sym (ap length (frees K' other k got symbols q))
  where
    both : {a b : ℕ} → 2 ^ a ≡ 2 ^ b → a ≡ b
    both {a} {b} e = omega (arith, pow_le a b (omega (arith, e)), pow_le b a (omega (arith, e)))

-- two answers of which each tells exactly, with equally many free pivots, differ in their counts only
same_answer : {S : Type 0} {Q : List S → Type 0} (p a p' a' : ℕ) (w w' : List S) (o o' : Option ℕ) (fs gs : List ℕ) → length fs ≡ length gs
    → Exactly Q (answer_at o p a fs w) → Exactly Q (answer_at o' p' a' gs w') → uncounted (answer_at o p a fs w) ≡ uncounted (answer_at o' p' a' gs w')
same_answer p a p' a' w w' (Some r) (Some i) fs gs l x y = refl
same_answer p a p' a' w w' (Some r) None fs [] l x y = absurd (false≢true (y.none_when.1 (x.none_when.0 refl)))
same_answer p a p' a' w w' (Some r) None fs (g ∷ gs) l x y = absurd (false≢true (y.none_when.1 (x.none_when.0 refl)))
same_answer p a p' a' w w' None (Some i) [] gs l x y = absurd (false≢true (x.none_when.1 (y.none_when.0 refl)))
same_answer p a p' a' w w' None (Some i) (f ∷ fs) gs l x y = absurd (false≢true (x.none_when.1 (y.none_when.0 refl)))
same_answer p a p' a' w w' None None [] [] l x y = ap (one 0 0) ((y.filling p' a' w' refl).1 w (x.filling p a w refl).0)
same_answer p a p' a' w w' None None [] (g ∷ gs) l x y = absurd (omega (arith, l))
same_answer p a p' a' w w' None None (f ∷ fs) [] l x y = absurd (omega (arith, l))
same_answer p a p' a' w w' None None (f ∷ fs) (g ∷ gs) l x y = ap (several 0 0) l

module _ {S : Type 0} {K : Kind S} (L : Laws K) {P Q : Type 0} where
  pub policy_alters_no_answer : PolicyAltersNoAnswer S K P Q
  unfolding answer method
  policy_alters_no_answer choice naming other naming' k ok got wide syms p q =
      let s : State S P = final K choice k got syms p in
      let t : State S Q = final K other k got syms q in
      same_answer (length s.pivots) s.additions (length t.pivots) t.additions
      (filled K k.width got syms s.rows) (filled K k.width got syms t.rows)
      (lowest (clash K) s.rows) (lowest (clash K) t.rows) s.free t.free
      (shortfall_by_places_alone S K P S K Q choice naming other naming' k ok got wide syms p syms q)
      (tells_exactly L choice naming k ok got wide syms p) (tells_exactly L other naming' k ok got wide syms q)

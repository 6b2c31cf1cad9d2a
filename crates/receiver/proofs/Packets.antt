-- The packets taken, and the numbers that they bear.
use Rattle.std.proofs.Common.{◌≡◌, ℕ, Bool, true, false, ◌||◌, eqb, List, [], ◌∷◌, refl, ap, eq-eqb, eqb-true}
use Rattle.std.specs.List.{AllByRecursion}
use Rattle.std.proofs.ByRecursion.{All-weaker}
use Rattle.receiver.specs.History.{Packet, borne}

-- two facts of each element give a third
pub all_both : {X : Type 0} {P Q R : X → Type 0} → ((x : X) → P x → Q x → R x) → (xs : List X) → AllByRecursion P xs → AllByRecursion Q xs → AllByRecursion R xs
all_both f [] a b = tt
all_both f (x ∷ xs) a b = (f x a.0 b.0, all_both f xs a.1 b.1)

module _ {S : Type 0} where
  borne_later : (k : Packet S) (ks : List (Packet S)) (p : ℕ) → borne ks p ≡ true → borne (k ∷ ks) p ≡ true
  borne_later k ks p e = go (eqb k.place p)
    where
      go : (b : Bool) → (b || borne ks p) ≡ true
      go true = refl
      go false = e

  -- each packet's number is borne
  pub all_borne : (ks : List (Packet S)) → AllByRecursion (λ k. borne ks k.place ≡ true) ks
  all_borne [] = tt
  all_borne (k ∷ ks) =
      (ap (λ b. b || borne ks k.place) (eq-eqb k.place k.place refl), All-weaker _ _ (λ j e. borne_later k ks j.place e) ks (all_borne ks))

  -- a number that is borne is some packet's
  pub some_bears : {R : Type 0} (ks : List (Packet S)) (p : ℕ) → borne ks p ≡ true → AllByRecursion (λ k. k.place ≡ p → R) ks → R
  some_bears [] p e a = cc
  some_bears {R} (k ∷ ks) p e a = go (λ f. some_bears ks p f a.1) (eqb k.place p) refl e
    where
      go : (borne ks p ≡ true → R) → (b : Bool) → eqb k.place p ≡ b → (b || borne ks p) ≡ true → R
      go later true is f = a.0 (eqb-true _ _ is)
      go later false is f = later f

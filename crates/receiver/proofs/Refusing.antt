-- What refuses a call: views that agree refuse alike, and a granted call has no cause.
use Rattle.std.proofs.Common.{◌≡◌, ℕ, ◌<◌, Bool, true, false, cond, not, ◌&&◌, eqb, leb, [], ◌∷◌, Some, None, Option, refl, ap, ◌∙◌, eqb-true, leb-false}
use Rattle.refusals.specs.Refusals.{if_so, first_of}
use Rattle.symbols.specs.Kinds.{Kind}
use Rattle.codes.specs.Matrix.{height}
use Rattle.receiver.specs.declared.block.Out.{Out}
use Rattle.receiver.specs.declared.block.Out.TheVariants.{Nothing, Full}
use Rattle.receiver.specs.declared.permit.Permit.{Permit}
use Rattle.receiver.specs.declared.fault.Fault.TheVariants.{NoStamp, OtherWidth, PermitOut, OtherBlock, OtherStamp, NoPlace, Received, NotLater, ShortMemory, NotItsPermit}
use Rattle.receiver.specs.Calls.{Call, View, is_out, owns, too_short, refusal}
use Rattle.receiver.specs.Calls.Call.{receive, solve, show, close, renew}

-- where no cause holds, the first does not, and none of the rest
pub no_cause : {F : Type 0} (b : Bool) (f : F) (rest : Option F) → cond b (Some f) rest ≡ None → (b ≡ false) × (rest ≡ None)
no_cause true f rest e = cc
no_cause false f rest e = (refl, e)

module _ (v w : View) (number : v.number ≡ w.number) (stamp : v.stamp ≡ w.stamp) (places : v.places ≡ w.places) (out : v.out ≡ w.out) (has : (p : ℕ) → p < w.places → v.has p ≡ w.has p) where
  place_same : (p : ℕ) → first_of (if_so (leb v.places p) (NoPlace p) ∷ if_so (v.has p) (Received p) ∷ []) ≡ first_of (if_so (leb w.places p) (NoPlace p) ∷ if_so (w.has p) (Received p) ∷ [])
  place_same p = ap (λ n. first_of (if_so (leb n p) (NoPlace p) ∷ if_so (v.has p) (Received p) ∷ [])) places ∙ go (leb w.places p) refl
    where
      go : (b : Bool) → leb w.places p ≡ b → first_of (if_so b (NoPlace p) ∷ if_so (v.has p) (Received p) ∷ []) ≡ first_of (if_so b (NoPlace p) ∷ if_so (w.has p) (Received p) ∷ [])
      go true e = refl
      go false e = ap (λ c. first_of (if_so c (Received p) ∷ [])) (has p (leb-false _ _ e))

  owns_same : (q : Permit) → owns v q ≡ owns w q
  owns_same q = λ i. is_out (out i) && (eqb q.number (number i) && eqb q.stamp (stamp i))

  pub refusal_same : {S : Type 0} (K : Kind S) (c : Call S) → refusal K v c ≡ refusal K w c
  refusal_same K (receive b s p x) = λ i. cond (is_out (out i)) (Some (PermitOut (stamp i))) (cond (not (eqb b (number i))) (Some (OtherBlock b)) (cond (not (eqb s (stamp i))) (Some (OtherStamp (stamp i))) (place_same p i)))
  refusal_same K (solve s) = λ i. cond (is_out (out i)) (Some (PermitOut (stamp i))) (cond (not (eqb s.code.width (places i))) (Some (OtherWidth s.code.width)) (cond (too_short s) (Some (ShortMemory (height s.code))) None))
  refusal_same K (show q p) = λ i. cond (not (owns_same q i)) (Some (NotItsPermit (stamp i))) (cond (leb (places i) p) (Some (NoPlace p)) None)
  refusal_same K (close q) = λ i. cond (not (owns_same q i)) (Some (NotItsPermit (stamp i))) None
  refusal_same K (renew s) = λ i. cond (is_out (out i)) (Some (PermitOut (stamp i))) (cond (eqb s 0) (Some NoStamp) (cond (leb s (stamp i)) (Some (NotLater (stamp i))) None))

-- a permit that is the block's: one is out, and it bears the block's stamp
pub owned : (v : View) (q : Permit) → owns v q ≡ true → (v.out ≡ Full) × (q.stamp ≡ v.stamp)
owned v q e = go v.out (eqb q.number v.number) (eqb q.stamp v.stamp) refl e
  where
    go : (a : Out) (b c : Bool) → eqb q.stamp v.stamp ≡ c → (is_out a && (b && c)) ≡ true → (a ≡ Full) × (q.stamp ≡ v.stamp)
    go Full true true is f = (refl, eqb-true _ _ is)
    go Full true false is f = cc
    go Full false c is f = cc
    go Nothing b c is f = cc

pub not_out : (a : Out) → is_out a ≡ false → a ≡ Nothing
not_out Nothing e = refl
not_out Full e = cc

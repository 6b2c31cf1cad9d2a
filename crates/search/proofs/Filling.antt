-- A table filled place by place where a place is not received.
use Rattle.std.proofs.Common.{◌≡◌, ℕ, ◌+◌, ◌<◌, ◌≤◌, Bool, true, false, cond, List, length, get_or, set, sym, refl, ◌∙◌, arith, length-set, get_or-set_other, get_or-set_same, below_more}
use Rattle.std.proofs.lemmas.List.{ext_get_or}
use Rattle.std.proofs.lemmas.Bool.{cond-true, cond-false}
use Rattle.method.specs.Sets.{has, table}
use Rattle.method.proofs.Marks.{get_or_table, length_table}

-- the places below i are done
pub record Filling {S : Type 0} (z : S) (got : List Bool) (value : ℕ → S) (old now : List S) (i : ℕ) : Type 0 where
  pub long : length now ≡ length old
  pub done : (c : ℕ) → c < i → get_or now c z ≡ cond (has got c) (get_or old c z) (value c)
  pub rest : (c : ℕ) → i ≤ c → get_or now c z ≡ get_or old c z

pub filling_none : {S : Type 0} (z : S) (got : List Bool) (value : ℕ → S) (old : List S) → Filling z got value old old 0
filling_none z got value old = record { long = refl; done = λ c h. absurd (omega arith); rest = λ c h. refl }

module _ {S : Type 0} {z : S} {got : List Bool} {value : ℕ → S} {old now : List S} {i : ℕ} (f : Filling z got value old now i) where
  pub filling_kept : has got i ≡ true → (now' : List S) → now' ≡ now → Filling z got value old now' (i + 1)
  filling_kept e now' q = rw q (record {
    long = f.long;
    done = below_more (λ c. get_or now c z ≡ cond (has got c) (get_or old c z) (value c)) i f.done (f.rest i (omega arith) ∙ sym (cond-true _ _ _ e));
    rest = λ c h. f.rest c (omega arith);
  })

  pub filling_put : i < length now → has got i ≡ false → (x : S) → x ≡ value i → (now' : List S) → now' ≡ set now i x → Filling z got value old now' (i + 1)
  filling_put l e x v now' q = rw q (record {
    long = length-set now i x ∙ f.long;
    done = below_more (λ c. get_or (set now i x) c z ≡ cond (has got c) (get_or old c z) (value c)) i
        (λ c h. get_or-set_other now i c x z (omega arith) ∙ f.done c h) (get_or-set_same now i x z l ∙ v ∙ sym (cond-false _ _ _ e));
    rest = λ c h. get_or-set_other now i c x z (omega arith) ∙ f.rest c (omega arith);
  })

  pub filling_all : length old ≤ i → now ≡ table (length old) (λ c. cond (has got c) (get_or old c z) (value c))
  filling_all l =
      ext_get_or z _ _ (f.long ∙ sym (length_table (length old) (λ c. cond (has got c) (get_or old c z) (value c))))
      (λ c h. f.done c (omega (arith, f.long)) ∙ sym (get_or_table (length old) (λ c. cond (has got c) (get_or old c z) (value c)) c z (omega (arith, f.long))))

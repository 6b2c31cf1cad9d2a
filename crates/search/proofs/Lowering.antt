-- A tally lowered at the rows of a set one after another.
use Rattle.std.proofs.Common.{◌≡◌, ℕ, suc, ◌-◌, ◌<◌, Bool, true, false, cond, ◌&&◌, eqb, ◌⊎◌, List, length, get_or, set, sym, refl, ap, ◌∙◌, inl, inr, arith, length-set, get_or-set_other, get_or-set_same}
use Rattle.std.proofs.lemmas.Bool.{cases_eq, cond-true, cond-false}
use Rattle.method.specs.Sets.{has, bump}
use Rattle.method.proofs.Marks.{has_below, clear_is}
use Rattle.policies.specs.Shown.{shown}
use Rattle.policies.proofs.Marks.{length_shown}
use Rattle.search.specs.declared.tally.Tally.{Tally}
use Rattle.search.specs.Steps.{Lowered}
use Rattle.search.proofs.Added.{gone}

pub record Lowering (held unused left : List Bool) (t t' : Tally) : Type 0 where
  pub counts : (q : ℕ) → bump (gone held left q) (get_or t'.counts q 0) ≡ get_or t.counts q 0
  pub readies : (q : ℕ) → has (shown t'.ready) q ≡ cond (gone held left q) (has unused q && eqb (get_or t'.counts q 0) 1) (has (shown t.ready) q)
  pub wide : t'.ready.width ≡ t.ready.width
  pub part : (q : ℕ) → has left q ≡ true → has held q ≡ true

pub gone_none : (held : List Bool) (q : ℕ) → gone held held q ≡ false
gone_none held q = go (has held q)
  where
    go : (b : Bool) → cond b false b ≡ false
    go true = refl
    go false = refl

-- the count of a row that is still left
pub left_count : {held unused left : List Bool} {t t' : Tally} → Lowering held unused left t t' → (q : ℕ) → has left q ≡ true → get_or t'.counts q 0 ≡ get_or t.counts q 0
left_count {held} {unused} {left} {t} {t'} now q here = ap (λ b. bump (cond b false (has held q)) (get_or t'.counts q 0)) (sym here) ∙ now.counts q

pub lowering_none : (held unused : List Bool) (t : Tally) → Lowering held unused held t t
lowering_none held unused t = record {
  counts = λ q. ap (λ b. bump b (get_or t.counts q 0)) (gone_none held q);
  readies = λ q. sym (cond-false _ _ _ (gone_none held q));
  wide = refl;
  part = λ q h. h;
}

module _ (held unused left : List Bool) (t t' t'' : Tally) (q : ℕ) (now : Lowering held unused left t t') (here : has left q ≡ true)
    (in_counts : q < length t'.counts) (in_ready : q < t'.ready.width) (some : 0 < get_or t'.counts q 0)
    (counts_is : t''.counts ≡ set t'.counts q (get_or t'.counts q 0 - 1))
    (ready_is : shown t''.ready ≡ set (shown t'.ready) q (has unused q && eqb (get_or t'.counts q 0 - 1) 1)) where
  went : gone held (set left q false) q ≡ true
  went = ap (λ b. cond b false (has held q)) (get_or-set_same left q false false (has_below left q here)) ∙ now.part q here

  stays : (d : ℕ) → (d ≡ q → ⊥) → gone held (set left q false) d ≡ gone held left d
  stays d ne = ap (λ b. cond b false (has held d)) (get_or-set_other left q d false false ne)

  count_here : get_or t''.counts q 0 ≡ get_or t'.counts q 0 - 1
  count_here = ap (λ xs. get_or xs q 0) counts_is ∙ get_or-set_same t'.counts q _ 0 in_counts

  count_other : (d : ℕ) → (d ≡ q → ⊥) → get_or t''.counts d 0 ≡ get_or t'.counts d 0
  count_other d ne = ap (λ xs. get_or xs d 0) counts_is ∙ get_or-set_other t'.counts q d _ 0 ne

  count_at : (d : ℕ) → (d ≡ q) ⊎ (d ≡ q → ⊥) → bump (gone held (set left q false) d) (get_or t''.counts d 0) ≡ get_or t.counts d 0
  count_at d (inl e) =
      rw e (ap (λ b. bump b (get_or t''.counts q 0)) went ∙ ap suc count_here ∙ less
      ∙ ap (λ b. bump b (get_or t'.counts q 0)) (sym (ap (λ b. cond b false (has held q)) here)) ∙ now.counts q)
    where
      less : suc (get_or t'.counts q 0 - 1) ≡ get_or t'.counts q 0
      less = omega arith
  count_at d (inr ne) = ap (λ b. bump b (get_or t''.counts d 0)) (stays d ne) ∙ ap (bump (gone held left d)) (count_other d ne) ∙ now.counts d

  ready_at : (d : ℕ) → (d ≡ q) ⊎ (d ≡ q → ⊥)
      → has (shown t''.ready) d ≡ cond (gone held (set left q false) d) (has unused d && eqb (get_or t''.counts d 0) 1) (has (shown t.ready) d)
  ready_at d (inl e) =
      rw e (ap (λ s. has s q) ready_is ∙ get_or-set_same (shown t'.ready) q _ false (omega (arith, length_shown t'.ready))
      ∙ ap (λ n. has unused q && eqb n 1) (sym count_here) ∙ sym (cond-true _ _ _ went))
  ready_at d (inr ne) =
      ap (λ s. has s d) ready_is ∙ get_or-set_other (shown t'.ready) q d _ false ne ∙ now.readies d
      ∙ ap (λ b. cond b (has unused d && eqb (get_or t'.counts d 0) 1) (has (shown t.ready) d)) (sym (stays d ne))
      ∙ ap (λ n. cond (gone held (set left q false) d) (has unused d && eqb n 1) (has (shown t.ready) d)) (sym (count_other d ne))

  pub lowering_more : (left' : List Bool) → left' ≡ set left q false → Lowering held unused left' t t''
  lowering_more left' z = rw z (record {
    counts = λ d. count_at d (cases_eq d q);
    readies = λ d. ready_at d (cases_eq d q);
    wide = sym (length_shown t''.ready) ∙ ap length ready_is ∙ length-set (shown t'.ready) q _ ∙ length_shown t'.ready ∙ now.wide;
    part = λ d h. now.part d (clear_is left q d h).0;
  })

pub lowering_all : (held unused left : List Bool) (t t' : Tally) → Lowering held unused left t t' → ((q : ℕ) → has left q ≡ false) → Lowered held unused t t'
lowering_all held unused left t t' now none = record {
  counts = λ q. ap (λ b. bump b (get_or t'.counts q 0)) (sym (all_gone q)) ∙ now.counts q;
  readies = λ q. now.readies q ∙ ap (λ b. cond b (has unused q && eqb (get_or t'.counts q 0) 1) (has (shown t.ready) q)) (all_gone q);
  wide = now.wide;
}
  where
    all_gone : (q : ℕ) → gone held left q ≡ has held q
    all_gone q = ap (λ b. cond b false (has held q)) (none q)

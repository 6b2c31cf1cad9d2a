-- Where one byte alone is lost, it is the sum of the others: they settle it.
use Rattle.std.proofs.Common.{◌≡◌, ℕ, zero, suc, ◌<◌, true, ◌≢◌, is_some, List, [], ◌∷◌, map, length, get_or, set, Some, None, Option, sym, ap, refl, ◌∙◌, ⊎_elim, arith, ext_get_or, get_or-set_other, get_or-set_same}
use Rattle.std.proofs.lemmas.Bool.{cases_eq}
use Rattle.std.proofs.lemmas.List.{length-map, length-set, get_or-map}
use Rattle.std.proofs.lemmas.Option.{slice_get-get_or, none-some}
use Rattle.symbols.specs.Sums.{total}
use Rattle.guests.specs.Bytes.{byte_of, byte_sum}
use Rattle.guests.specs.ByteLaws.{byte_laws}
use Rattle.guests.specs.Restoring.{Fits, Settles, or_zero, sum_heard, OnlyLost}
use Rattle.guests.specs.declared.byte.Byte.{Byte}

abbrev sum : List Byte → Byte
sum xs = total (byte_of 0) byte_sum xs

-- a byte put in where a zero was is one more to add
sum_set : (xs : List Byte) (i : ℕ) (y : Byte) → i < length xs → get_or xs i (byte_of 0) ≡ byte_of 0 → sum (set xs i y) ≡ byte_sum y (sum xs)
sum_set [] i y l e = absurd (omega arith)
sum_set (x ∷ xs) zero y l e = ap (byte_sum y) (sym (byte_laws.sums.identity (sum xs)) ∙ ap (λ z. byte_sum z (sum xs)) (sym e))
sum_set (x ∷ xs) (suc i) y l e =
    let a = byte_laws.sums.associative in
    ap (byte_sum x) (sum_set xs i y (omega arith) e) ∙ sym (a x y (sum xs)) ∙ ap (λ z. byte_sum z (sum xs)) (byte_laws.sums.commutative x y) ∙ a y x (sum xs)

-- two bytes whose sum is zero are equal
same_byte : (x y : Byte) → byte_sum x y ≡ byte_of 0 → x ≡ y
same_byte x y e =
    let s = byte_laws.sums in
    sym (s.identity x) ∙ s.commutative (byte_of 0) x ∙ ap (byte_sum x) (sym (byte_laws.cancels y)) ∙ sym (s.associative x y y) ∙ ap (λ z. byte_sum z y) e ∙ s.identity y

module _ (heard : List (Option Byte)) (p : ℕ) (one : OnlyLost heard p) where
  abbrev xs : List Byte
  xs = map or_zero heard

  abbrev whole : Byte → List Byte
  whole y = set xs p y

  inside : p < length xs
  inside = omega (arith, one.there, length-map heard or_zero)

  zero_there : get_or xs p (byte_of 0) ≡ byte_of 0
  zero_there = get_or-map or_zero heard p None (byte_of 0) one.there ∙ ap or_zero one.lost

  heard_there : (c : ℕ) (x : Byte) → c < length heard → get_or heard c None ≡ Some x → (y : Byte) → get_or (whole y) c (byte_of 0) ≡ x
  heard_there c x l e y = ⊎_elim
      (λ (q : c ≡ p). absurd (none-some x (sym one.lost ∙ ap (λ k. get_or heard k None) (sym q) ∙ e)))
      (λ (q : c ≢ p). get_or-set_other xs p c y (byte_of 0) q ∙ get_or-map or_zero heard c None (byte_of 0) l ∙ ap or_zero e)
      (cases_eq c p)

  the_sum : (y : Byte) → sum (whole y) ≡ byte_sum y (sum_heard heard)
  the_sum y = sum_set xs p y inside zero_there

  -- what fits is the bytes heard with one more
  is_whole : (w : List Byte) → Fits heard w → w ≡ whole (get_or w p (byte_of 0))
  is_whole w f =
      let y = get_or w p (byte_of 0) in
      ext_get_or (byte_of 0) w (whole y) (f.wide ∙ sym (length-set xs p y ∙ length-map heard or_zero)) (λ c l.
      ⊎_elim
      (λ (q : c ≡ p). ap (λ k. get_or w k (byte_of 0)) q ∙ sym (ap (λ k. get_or (whole y) k (byte_of 0)) q ∙ get_or-set_same xs p y (byte_of 0) inside))
      (λ (q : c ≢ p). other c (omega (arith, f.wide)) (get_or heard c None) refl (one.others c (omega (arith, f.wide)) q))
      (cases_eq c p))
    where
      other : (c : ℕ) → c < length heard → (o : Option Byte) → get_or heard c None ≡ o → is_some o ≡ true → get_or w c (byte_of 0) ≡ get_or (whole (get_or w p (byte_of 0))) c (byte_of 0)
      other c l None e s = cc
      other c l (Some x) e s = f.agrees c x l e ∙ sym (heard_there c x l e _)

  pub lost_settled : Settles heard p (sum_heard heard)
  lost_settled =
      let y = sum_heard heard in
      record {
        bytes = whole y;
        only = (
          record {
            wide = length-set xs p y ∙ length-map heard or_zero;
            sums = the_sum y ∙ byte_laws.cancels y;
            agrees = λ c x l e. heard_there c x l e y;
          },
          λ w f. is_whole w f ∙ ap whole (same_byte _ y (sym (the_sum _) ∙ ap sum (sym (is_whole w f)) ∙ f.sums)),
        );
        few = one.few;
        there = slice_get-get_or (whole y) p (byte_of 0) (omega (arith, inside, length-set xs p y)) ∙ ap Some (get_or-set_same xs p y (byte_of 0) inside);
      }

-- Of symbols with two values, the codewords that agree are a list that doubles with each free pivot.
use Rattle.std.proofs.Common.{◌≡◌, ℕ, ◌^◌, Bool, true, false, cond, ◌||◌, eqb, ◌≢◌, ◌⊎◌, List, [], ◌∷◌, ◌++◌, map, length, Some, None, Option, sym, refl, ap, ◌∙◌, subst, inl, inr, arith, length-append}
use native.Mathlib.Nat.{two-pow-succ}
use lib.ListN.{length-map}
use Rattle.std.specs.List.{ContainsAt as Has, AllByRecursion}
use Rattle.std.proofs.ByRecursion.{All-append, All-map, All-weaker, all-has, has_append_left, has_append_right}
use Rattle.std.proofs.lemmas.Bool.{true≢false, or_parts, or_right, or_cases, eqb-true, eq-eqb, ne_eqb}
use Rattle.symbols.specs.Kinds.{Kind, Laws}
use Rattle.codes.specs.Matrix.{Matrix, member, Apart}
use Rattle.method.specs.Sets.{lowest}
use Rattle.method.specs.Method.{State, final, clash, filled, answer_at, answer, method}
use Rattle.method.specs.Fillings.{Agreeing, says_none, Pairwise, Listing}
use Rattle.method.specs.Theorems.{TwoValued, Doubles}
use Rattle.method.proofs.Sums.{at}
use Rattle.method.proofs.Counts.{occ_some, member_some, member_none}
use Rattle.method.proofs.Final.{shares_le, ended_settled, Clean, OffUsed}
use Rattle.method.proofs.Tells.{Search, final_search, filling, filling_agrees, filling_only, filling_free, no_clash}
use Rattle.method.proofs.Listings.{pairwise_append, pairwise_map, pairwise_weaker, has_map}

module _ {S : Type 0} (K : Kind S) where
  -- unit at f, and y elsewhere
  abbrev with_unit : ℕ → (ℕ → S) → ℕ → S
  with_unit f y c = cond (eqb f c) K.unit (y c)

  -- zero or unit at each place listed, in all ways, and zero elsewhere
  abbrev pub valuations : List ℕ → List (ℕ → S)
  valuations [] = (λ _. K.zero) ∷ []
  valuations (f ∷ fs) = valuations fs ++ map (with_unit f) (valuations fs)

  pub length_valuations : (fs : List ℕ) → length (valuations fs) ≡ 2 ^ length fs
  length_valuations [] = refl
  length_valuations (f ∷ fs) =
      let vs = valuations fs in
      omega (arith, length-append vs (map (with_unit f) vs), length-map vs (with_unit f), length_valuations fs, two-pow-succ (length fs))

  abbrev Off : List ℕ → (ℕ → S) → Type 0
  Off fs y = (c : ℕ) → member c fs ≡ false → y c ≡ K.zero

  valuations_off : (fs : List ℕ) → AllByRecursion (Off fs) (valuations fs)
  valuations_off [] = (λ c h. refl, tt)
  valuations_off (f ∷ fs) =
      let ih = valuations_off fs in
      All-append (Off (f ∷ fs)) (valuations fs) (map (with_unit f) (valuations fs))
      (All-weaker (Off fs) (Off (f ∷ fs)) (λ y h c n. h c (or_parts (eqb f c) (member c fs) n).1) (valuations fs) ih)
      (All-map (Off (f ∷ fs)) (with_unit f) (valuations fs)
      (All-weaker (Off fs) (λ y. Off (f ∷ fs) (with_unit f y))
      (λ y h c n. let t = or_parts (eqb f c) (member c fs) n in ap (λ b. cond b K.unit (y c)) t.0 ∙ h c t.1) (valuations fs) ih))

  -- different at a place listed
  abbrev Parted : List ℕ → (ℕ → S) → (ℕ → S) → Type 0
  Parted fs y z = (c : ℕ) × (member c fs ≡ true) × (y c ≢ z c)

  module _ (L : Laws K) where
    with_unit_at : (f : ℕ) (y : ℕ → S) → with_unit f y f ≡ K.unit
    with_unit_at f y = ap (λ b. cond b K.unit (y f)) (eq-eqb f f refl)

    -- a place listed is not f, which is not
    with_unit_off : (f : ℕ) (fs : List ℕ) → member f fs ≡ false → (y : ℕ → S) (c : ℕ) → member c fs ≡ true → with_unit f y c ≡ y c
    with_unit_off f fs n y c h =
        ap (λ b. cond b K.unit (y c)) (ne_eqb f c (λ z. true≢false (sym h ∙ ap (λ x. member x fs) (sym z) ∙ n)))

    pub valuations_apart : (fs : List ℕ) → Apart fs → Pairwise (Parted fs) (valuations fs)
    valuations_apart [] a = (tt, tt)
    valuations_apart (f ∷ fs) a =
        let vs = valuations fs in
        let ih = valuations_apart fs a.1 in
        let off = valuations_off fs in
        pairwise_append (Parted (f ∷ fs)) vs (map (with_unit f) vs)
        (pairwise_weaker (Parted fs) (Parted (f ∷ fs)) (λ y z p. (p.0, or_right (eqb f p.0) (member p.0 fs) p.1, p.2)) vs ih)
        (pairwise_map (Parted fs) (Parted (f ∷ fs)) (with_unit f)
        (λ y z p. (
          p.0,
          or_right (eqb f p.0) (member p.0 fs) p.1,
          λ e. p.2 (sym (with_unit_off f fs a.0 y p.0 p.1) ∙ e ∙ with_unit_off f fs a.0 z p.0 p.1),
        )) vs ih)
        (All-weaker (Off fs) (λ y. AllByRecursion (Parted (f ∷ fs) y) (map (with_unit f) vs))
        (λ y h. All-map (Parted (f ∷ fs) y) (with_unit f) vs (All-weaker (Off fs) (λ z. Parted (f ∷ fs) y (with_unit f z))
        (λ z _. (f, ap (λ b. b || member f fs) (eq-eqb f f refl), λ e. L.distinct (sym (with_unit_at f z) ∙ sym e ∙ h f a.0))) vs off)) vs off)

    -- every symbols x are matched at the places listed
    pub valuations_all : TwoValued K → (fs : List ℕ) → Apart fs → (x : ℕ → S) → (y : ℕ → S) × Has (valuations fs) y × ((c : ℕ) → member c fs ≡ true → x c ≡ y c)
    valuations_all two [] a x = (λ _. K.zero, (0, omega arith, λ d. refl), λ c h. absurd (true≢false (sym h)))
    valuations_all two (f ∷ fs) a x = go (two (x f)) (valuations_all two fs a.1 x)
      where
        go : (x f ≡ K.zero) ⊎ (x f ≡ K.unit) → (y : ℕ → S) × Has (valuations fs) y × ((c : ℕ) → member c fs ≡ true → x c ≡ y c)
            → (y : ℕ → S) × Has (valuations (f ∷ fs)) y × ((c : ℕ) → member c (f ∷ fs) ≡ true → x c ≡ y c)
        go (inl e) t =
            (t.0, has_append_left (valuations fs) (map (with_unit f) (valuations fs)) t.0 t.1, λ c h. at_c c (or_cases (eqb f c) (member c fs) h))
          where
            at_c : (c : ℕ) → (eqb f c ≡ true) ⊎ (member c fs ≡ true) → x c ≡ t.0 c
            at_c c (inl h) =
                let z : f ≡ c = eqb-true f c h in
                ap x (sym z) ∙ e ∙ sym (all-has (Off fs) (valuations fs) t.0 (valuations_off fs) t.1 f a.0) ∙ ap t.0 z
            at_c c (inr h) = t.2 c h
        go (inr e) t = (
          with_unit f t.0,
          has_append_right (valuations fs) (map (with_unit f) (valuations fs)) (with_unit f t.0) (has_map (with_unit f) (valuations fs) t.0 t.1),
          λ c h. at_c c (or_cases (eqb f c) (member c fs) h),
        )
          where
            at_c : (c : ℕ) → (eqb f c ≡ true) ⊎ (member c fs ≡ true) → x c ≡ with_unit f t.0 c
            at_c c (inl h) = ap x (sym (eqb-true f c h)) ∙ e ∙ sym (ap (λ b. cond b K.unit (t.0 c)) h)
            at_c c (inr h) = t.2 c h ∙ sym (with_unit_off f fs a.0 t.0 c h)

module _ {S P : Type 0} {K : Kind S} (L : Laws K) {k : Matrix} {got : List Bool} {syms : List S} {s : State S P} (d : Search K k got syms s) where
  off_used : AllByRecursion (OffUsed K s.rows) (valuations K s.free)
  off_used =
      All-weaker (Off K s.free) (OffUsed K s.rows)
      (λ y h c u. h c (member_none c s.free (omega (arith, u, shares_le d.ended c)))) (valuations K s.free) (valuations_off K s.free)

  pub agreeing_listing : TwoValued K → Clean K s.rows → Listing (Agreeing K k got syms) (2 ^ length s.free)
  agreeing_listing two clean = record {
    list = map of vs;
    long = length-map vs of ∙ length_valuations K s.free;
    different = pairwise_map (Parted K s.free) (λ v w. v ≢ w) of differ vs (valuations_apart K L s.free apart);
    all = λ w. (in_list w, all-has (Agreeing K k got syms) (map of vs) w agree);
  }
    where
      vs : List (ℕ → S)
      vs = valuations K s.free

      of : (ℕ → S) → List S
      of y = filling K k got syms s.rows y

      apart : Apart s.free
      apart = (ended_settled d.ended).free_apart

      differ : (y z : ℕ → S) → Parted K s.free y z → of y ≢ of z
      differ y z p e =
          let o = occ_some p.0 s.free p.1 in
          p.2 (sym (filling_free L d y p.0 o) ∙ ap (λ w. at K w p.0) e ∙ filling_free L d z p.0 o)

      agree : AllByRecursion (Agreeing K k got syms) (map of vs)
      agree = All-map (Agreeing K k got syms) of vs (All-weaker (OffUsed K s.rows) (λ y. Agreeing K k got syms (of y)) (filling_agrees L d clean) vs off_used)

      in_list : (w : List S) → Agreeing K k got syms w → Has (map of vs) w
      in_list w g =
          let t = valuations_all K L two s.free apart (at K w) in
          let is : w ≡ of t.0 = filling_only L d w g t.0 (all-has (OffUsed K s.rows) vs t.0 off_used t.1) (λ c o. t.2 c (member_some c s.free o)) in
          subst (Has (map of vs)) (sym is) (has_map of vs t.0 t.1)

module _ {S : Type 0} {K : Kind S} (L : Laws K) {P : Type 0} where
  pub doubles : Doubles S K P
  unfolding answer method
  doubles two choice naming k ok got wide syms p not_None = agreeing_listing L d two (no_clash L d (go (lowest (clash K) s.rows) not_None))
    where
      s : State S P
      s = final K choice k got syms p

      d : Search K k got syms s
      d = final_search L choice naming k ok got wide syms p

      go : (o : Option ℕ) → says_none (answer_at o (length s.pivots) s.additions s.free (filled K k.width got syms s.rows)) ≡ false → o ≡ None
      go None h = refl
      go (Some r) h = absurd (true≢false h)

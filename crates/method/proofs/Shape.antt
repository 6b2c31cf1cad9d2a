-- Symbols steer nothing: a search over any kind goes as the search over symbols of one value.
use Rattle.std.proofs.Common.{◌≡◌, ℕ, zero, suc, ◌+◌, Bool, true, false, not, eqb, List, [], ◌∷◌, map, set, Some, None, Option, sym, refl, ap, ◌∙◌}
use mathlib.Core.List.{map-map}
use lib.ListN.{get_or-map}
use lib.Seq.{map-set}
use Rattle.symbols.specs.Kinds.{Kind}
use Rattle.codes.specs.Matrix.{Matrix}
use Rattle.method.specs.Sets.{count, lowest, here_or}
use Rattle.method.specs.Method.{Row, State, Choice, missing, row_holds, unused, ready, only_column, holder, named, row_of, blank, taken_for, added_if, use_row, others, spend, start_row, start, step_at, step_if, step, steps, settle_at, settle, final}

-- the kind with one value
abbrev pub nothing : Kind (Unit {0})
nothing = record { zero = tt; unit = tt; sum = λ _ _. tt; is_zero = λ _. true }

abbrev pub bare_row : {S : Type 0} → Row S → Row (Unit {0})
bare_row q = record { cols = q.cols; right = tt; used = q.used }

-- a state without its symbols
abbrev pub bare : {S P : Type 0} → State S P → State (Unit {0}) P
bare s = record { rows = map bare_row s.rows; active = s.active; pivots = s.pivots; free = s.free; additions = s.additions; policy = s.policy }

pub lowest_map : {A B : Type 0} (p : B → Bool) (f : A → B) (xs : List A) → lowest p (map f xs) ≡ lowest (λ x. p (f x)) xs
lowest_map p f [] = refl
lowest_map p f (x ∷ xs) = ap (here_or (p (f x))) (lowest_map p f xs)

module _ {S : Type 0} (K : Kind S) where
  bare_at : (rows : List (Row S)) (r : ℕ) → row_of nothing (map bare_row rows) r ≡ bare_row (row_of K rows r)
  bare_at rows r = get_or-map bare_row rows r (blank K)

  bare_added : (b : Bool) (p q : Row S) → bare_row (added_if K b p q) ≡ added_if nothing b (bare_row p) (bare_row q)
  bare_added true p q = refl
  bare_added false p q = refl

  bare_use : (r c : ℕ) (rows : List (Row S)) → map bare_row (use_row K r c rows) ≡ use_row nothing r c (map bare_row rows)
  bare_use r c rows =
      let p : Row S = row_of K rows r in
      map-set bare_row (map (λ q. added_if K (row_holds c q) p q) rows) r (taken_for c p)
      ∙ ap (λ l. set l r (taken_for c (bare_row p)))
      (map-map bare_row (λ q. added_if K (row_holds c q) p q) rows
      ∙ ap (λ f. map f rows) (λ i q. bare_added (row_holds c q) p q i)
      ∙ sym (map-map (λ q. added_if nothing (row_holds c q) (bare_row p) q) bare_row rows))
      ∙ ap (λ p'. set (map (λ q. added_if nothing (row_holds c q) p' q) (map bare_row rows)) r (taken_for c p')) (sym (bare_at rows r))

  bare_others : (r c : ℕ) (rows : List (Row S)) → others K r c rows ≡ others nothing r c (map bare_row rows)
  bare_others r c rows =
      ap count (sym (map-map (λ q. row_holds c q) bare_row (set rows r (blank K))) ∙ ap (map (λ q. row_holds c q)) (map-set bare_row rows r (blank K)))

  module _ {P : Type 0} where
    bare_spend : (r c : ℕ) (s : State S P) → bare (spend K r c s) ≡ spend nothing r c (bare s)
    bare_spend r c s = λ i. record {
      rows = bare_use r c s.rows i;
      active = set s.active c false;
      pivots = s.pivots;
      free = s.free;
      additions = s.additions + bare_others r c s.rows i;
      policy = s.policy;
    }

    bare_named : (o : Option ℕ) (p : P) (s : State S P) → bare (named o p s) ≡ named o p (bare s)
    bare_named None p s = refl
    bare_named (Some c) p s = refl

    module _ (choice : Choice P) where
      bare_step_at : (o : Option ℕ) (s : State S P) → bare (step_at K choice o s) ≡ step_at nothing choice o (bare s)
      bare_step_at (Some r) s =
          bare_spend r (only_column s.active (row_of K s.rows r)) s
          ∙ ap (λ q. spend nothing r (only_column s.active q) (bare s)) (sym (bare_at s.rows r))
      bare_step_at None s =
          let o = choice s.policy s.active (map unused s.rows) in
          bare_named o.0 o.1 s
          ∙ ap (λ u. named (choice s.policy s.active u).0 (choice s.policy s.active u).1 (bare s)) (sym (map-map unused bare_row s.rows))

      bare_step_if : (b : Bool) (s : State S P) → bare (step_if K choice b s) ≡ step_if nothing choice b (bare s)
      bare_step_if false s = refl
      bare_step_if true s =
          bare_step_at (lowest (ready s.active) s.rows) s
          ∙ ap (λ o. step_at nothing choice o (bare s)) (sym (lowest_map (ready s.active) bare_row s.rows))

      bare_steps : (j : ℕ) (s : State S P) → bare (steps K choice j s) ≡ steps nothing choice j (bare s)
      unfolding steps step
      bare_steps zero s = refl
      bare_steps (suc j) s = bare_steps j (step K choice s) ∙ ap (steps nothing choice j) (bare_step_if (not (eqb (count s.active) 0)) s)

    bare_settle_at : (c : ℕ) (o : Option ℕ) (s : State S P) → bare (settle_at K c o s) ≡ settle_at nothing c o (bare s)
    bare_settle_at c None s = refl
    bare_settle_at c (Some r) s = bare_spend r c s

    bare_settle : (cs : List ℕ) (s : State S P) → bare (settle K cs s) ≡ settle nothing cs (bare s)
    unfolding settle
    bare_settle [] s = refl
    bare_settle (c ∷ cs) s =
        bare_settle cs (settle_at K c (lowest (holder c) s.rows) s)
        ∙ ap (settle nothing cs) (bare_settle_at c (lowest (holder c) s.rows) s ∙ ap (λ o. settle_at nothing c o (bare s)) (sym (lowest_map (holder c) bare_row s.rows)))

    bare_start : (k : Matrix) (got : List Bool) (syms : List S) (p : P) → bare (start K k got syms p) ≡ start nothing k got [] p
    bare_start k got syms p = λ i. record {
      rows = map-map bare_row (start_row K k.width got syms) k.rows i;
      active = missing got;
      pivots = [];
      free = [];
      additions = 0;
      policy = p;
    }

    -- the sets, pivots, free pivots, additions and policy of a search go by the code, the received places and the policy alone
    pub shape : (choice : Choice P) (k : Matrix) (got : List Bool) (syms : List S) (p : P) → bare (final K choice k got syms p) ≡ final nothing choice k got [] p
    unfolding final
    shape choice k got syms p =
        let s : State S P = steps K choice k.width (start K k got syms p) in
        bare_settle s.pivots s
        ∙ ap (λ t. settle nothing t.pivots t) (bare_steps choice k.width (start K k got syms p) ∙ ap (steps nothing choice k.width) (bare_start k got syms p))

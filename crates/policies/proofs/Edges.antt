-- The pairs that rows give are the edges.
use Rattle.std.proofs.Common.{◌≡◌, ℕ, zero, suc, ◌<◌, ◌≤◌, Bool, true, false, ◌||◌, eqb, ◌≢◌, ◌⊎◌, List, [], ◌∷◌, Some, None, Option, sym, refl, ap, ◌∙◌, subst, inl, inr, ⊎_elim, arith}
use Rattle.std.specs.List.{AllByRecursion}
use Rattle.std.proofs.lemmas.List.{get_or_past}
use Rattle.std.proofs.lemmas.Bool.{cases_lt, cases_eq, both_ways, eq-eqb, eqb-true, and_parts, and_from, or_cases, or_left, or_right, false≢true}
use Rattle.codes.specs.Matrix.{Matrix, Lawful, Apart, row_at, height, member}
use Rattle.codes.specs.MatrixLaws.{row_lawful}
use Rattle.method.specs.Sets.{has, marked}
use Rattle.method.specs.Choices.{pair_of, with_pair, joins}
use Rattle.method.proofs.Marks.{member_marked, marked_lawful}
use Rattle.policies.specs.Relations.{Linked}
use Rattle.std.proofs.lemmas.Option.{none-some}

-- a listed number that is marked
marked_from : (a : List Bool) (row : List ℕ) (z : ℕ) → member z (marked a row) ≡ true → (member z row ≡ true) × (has a z ≡ true)
marked_from a row z h = and_parts (member z row) (has a z) (sym (member_marked a row z) ∙ h)

marked_to : (a : List Bool) (row : List ℕ) (z : ℕ) → member z row ≡ true → has a z ≡ true → member z (marked a row) ≡ true
marked_to a row z h k = member_marked a row z ∙ and_from (member z row) (has a z) h k

-- the members of a list of two
head_in : (x : ℕ) (xs : List ℕ) → member x (x ∷ xs) ≡ true
head_in x xs = or_left (eqb x x) (member x xs) (eq-eqb x x refl)

second_in : (x y : ℕ) (xs : List ℕ) → member y (x ∷ (y ∷ xs)) ≡ true
second_in x y xs = or_right (eqb x y) (member y (y ∷ xs)) (head_in y xs)

one_of_two : (x y z : ℕ) → member z (x ∷ (y ∷ [])) ≡ true → (z ≡ x) ⊎ (z ≡ y)
one_of_two x y z h =
    ⊎_elim (λ (e : eqb x z ≡ true). inl (sym (eqb-true x z e)))
    (λ (e : (eqb y z || false) ≡ true). ⊎_elim (λ (f : eqb y z ≡ true). inr (sym (eqb-true y z f))) (λ (f : false ≡ true). absurd (false≢true f)) (or_cases (eqb y z) false e))
    (or_cases (eqb x z) (eqb y z || false) h)

apart_ne : (x y : ℕ) (xs : List ℕ) → member x xs ≡ false → member y xs ≡ true → x ≢ y
apart_ne x y xs h i e = both_ways (member y xs) (subst (λ z. member z xs ≡ false) e h) i

pair_is : (xs : List ℕ) (x y : ℕ) → Some (x, y) ≡ pair_of xs → xs ≡ x ∷ (y ∷ [])
pair_is [] x y e = absurd (none-some _ (sym e))
pair_is (p ∷ []) x y e = absurd (none-some _ (sym e))
pair_is (p ∷ (q ∷ [])) x y e = let z : ◌≡◌ {A = ℕ × ℕ} (p, q) (x, y) = cc in ap (λ (t : ℕ × ℕ). t.0 ∷ (t.1 ∷ [])) z
pair_is (p ∷ (q ∷ (r ∷ rs))) x y e = absurd (none-some _ (sym e))

-- different numbers, x and y among them and no other, are the pair of x and y
module _ (x y : ℕ) (n : x ≢ y) where
  abbrev Among : List ℕ → Type 0
  Among xs = Apart xs × (member x xs ≡ true) × (member y xs ≡ true) × ((z : ℕ) → member z xs ≡ true → (z ≡ x) ⊎ (z ≡ y))

  two_ways : (p q : ℕ) → p ≢ q → (p ≡ x) ⊎ (p ≡ y) → (q ≡ x) ⊎ (q ≡ y) → (◌≡◌ {A = Option (ℕ × ℕ)} (Some (x, y)) (Some (p, q))) ⊎ (◌≡◌ {A = Option (ℕ × ℕ)} (Some (y, x)) (Some (p, q)))
  two_ways p q ne (inl e) (inl f) = absurd (ne (e ∙ sym f))
  two_ways p q ne (inl e) (inr f) = inl (let z : ◌≡◌ {A = Option (ℕ × ℕ)} (Some (x, y)) (Some (p, q)) = cc in z)
  two_ways p q ne (inr e) (inl f) = inr (let z : ◌≡◌ {A = Option (ℕ × ℕ)} (Some (y, x)) (Some (p, q)) = cc in z)
  two_ways p q ne (inr e) (inr f) = absurd (ne (e ∙ sym f))

  three : (p q r : ℕ) → p ≢ q → p ≢ r → q ≢ r → (p ≡ x) ⊎ (p ≡ y) → (q ≡ x) ⊎ (q ≡ y) → (r ≡ x) ⊎ (r ≡ y) → ⊥
  three p q r pq pr qr (inl e) (inl f) w = pq (e ∙ sym f)
  three p q r pq pr qr (inr e) (inr f) w = pq (e ∙ sym f)
  three p q r pq pr qr (inl e) (inr f) (inl i) = pr (e ∙ sym i)
  three p q r pq pr qr (inl e) (inr f) (inr i) = qr (f ∙ sym i)
  three p q r pq pr qr (inr e) (inl f) (inl i) = qr (f ∙ sym i)
  three p q r pq pr qr (inr e) (inl f) (inr i) = pr (e ∙ sym i)

  pair_among : (xs : List ℕ) → Among xs → (Some (x, y) ≡ pair_of xs) ⊎ (Some (y, x) ≡ pair_of xs)
  pair_among [] h = absurd (false≢true h.1)
  pair_among (p ∷ []) h = absurd (n (sym (one x h.1) ∙ one y h.2))
    where
      one : (z : ℕ) → (eqb p z || false) ≡ true → p ≡ z
      one z e = ⊎_elim (λ (q : eqb p z ≡ true). eqb-true p z q) (λ (q : false ≡ true). absurd (false≢true q)) (or_cases (eqb p z) false e)
  pair_among (p ∷ (q ∷ [])) h = two_ways p q (apart_ne p q (q ∷ []) h.0.0 (head_in q [])) (h.3 p (head_in p (q ∷ []))) (h.3 q (second_in p q []))
  pair_among (p ∷ (q ∷ (r ∷ rs))) h =
      let r_in : member r (q ∷ (r ∷ rs)) ≡ true = second_in q r rs in
      absurd (three p q r
      (apart_ne p q (q ∷ (r ∷ rs)) h.0.0 (head_in q (r ∷ rs))) (apart_ne p r (q ∷ (r ∷ rs)) h.0.0 r_in) (apart_ne q r (r ∷ rs) h.0.1.0 (head_in r rs))
      (h.3 p (head_in p (q ∷ (r ∷ rs)))) (h.3 q (second_in p q (r ∷ rs))) (h.3 r (or_right (eqb p r) (member r (q ∷ (r ∷ rs))) r_in)))

module _ (k : Matrix) (ok : Lawful k) (a u : List Bool) where
  apart_active : (r : ℕ) → Apart (marked a (row_at k r))
  apart_active r = (marked_lawful k.width a (row_at k r) (row_lawful k ok r)).apart

  -- the pair of an unused row is an edge
  pair_linked : (r x y : ℕ) → has u r ≡ true → Some (x, y) ≡ pair_of (marked a (row_at k r)) → Linked k a u x y
  pair_linked r x y free e =
      let is : marked a (row_at k r) ≡ x ∷ (y ∷ []) = pair_is (marked a (row_at k r)) x y e in
      let from : (z : ℕ) → member z (x ∷ (y ∷ [])) ≡ true → (member z (row_at k r) ≡ true) × (has a z ≡ true) =
      λ z h. marked_from a (row_at k r) z (subst (λ xs. member z xs ≡ true) (sym is) h) in
      let fx = from x (head_in x (y ∷ [])) in
      let fy = from y (second_in x y []) in
      record {
        row = r;
        unused = free;
        holds_x = fx.0;
        holds_y = fy.0;
        active_x = fx.1;
        active_y = fy.1;
        two = apart_ne x y (y ∷ []) (subst Apart is (apart_active r)).0 (head_in y []);
        no_third = λ z h i. one_of_two x y z (subst (λ xs. member z xs ≡ true) is (marked_to a (row_at k r) z h i));
      }

  pub joins_linked : (n : ℕ) → AllByRecursion (λ e. Linked k a u e.0 e.1) (joins k a u n)
  joins_linked zero = tt
  joins_linked (suc r) = go (has u r) refl (pair_of (marked a (row_at k r))) refl (joins_linked r)
    where
      go : (b : Bool) → has u r ≡ b → (o : Option (ℕ × ℕ)) → o ≡ pair_of (marked a (row_at k r))
          → AllByRecursion (λ e. Linked k a u e.0 e.1) (joins k a u r) → AllByRecursion (λ e. Linked k a u e.0 e.1) (with_pair b o (joins k a u r))
      go false e o f h = h
      go true e None f h = h
      go true e (Some p) f h = (pair_linked r p.0 p.1 e f, h)

  -- what holds of each pair holds of each edge, one way or the other
  module _ (P : ℕ × ℕ → Type 0) where
    row_pair : (r : ℕ) (e : ℕ × ℕ) → has u r ≡ true → Some e ≡ pair_of (marked a (row_at k r)) → (n : ℕ) → r < n → AllByRecursion P (joins k a u n) → P e
    row_pair r e free q zero l h = absurd (omega arith)
    row_pair r e free q (suc n) l h = go (cases_eq r n) (has u n) refl (pair_of (marked a (row_at k n))) refl h (row_pair r e free q n)
      where
        go : (r ≡ n) ⊎ (r ≡ n → ⊥) → (b : Bool) → has u n ≡ b → (o : Option (ℕ × ℕ)) → o ≡ pair_of (marked a (row_at k n)) → AllByRecursion P (with_pair b o (joins k a u n))
            → (r < n → AllByRecursion P (joins k a u n) → P e) → P e
        go (inl s) false f o w h ih = absurd (both_ways (has u n) f (ap (has u) (sym s) ∙ free))
        go (inl s) true f None w h ih = absurd (none-some e (w ∙ sym (q ∙ ap (λ z. pair_of (marked a (row_at k z))) s)))
        go (inl s) true f (Some d) w h ih =
            let same : ◌≡◌ {A = Option (ℕ × ℕ)} (Some d) (Some e) = w ∙ sym (q ∙ ap (λ z. pair_of (marked a (row_at k z))) s) in
            let z : d ≡ e = cc in subst P z h.0
        go (inr s) false f o w h ih = ih (omega arith) h
        go (inr s) true f None w h ih = ih (omega arith) h
        go (inr s) true f (Some d) w h ih = ih (omega arith) h.1

    pub edge_pair : AllByRecursion P (joins k a u (height k)) → (x y : ℕ) → Linked k a u x y → P (x, y) ⊎ P (y, x)
    edge_pair h x y w =
        ⊎_elim (λ (e : Some (x, y) ≡ pair_of (marked a (row_at k w.row))). inl (row_pair w.row (x, y) w.unused e (height k) inside h))
        (λ (e : Some (y, x) ≡ pair_of (marked a (row_at k w.row))). inr (row_pair w.row (y, x) w.unused e (height k) inside h))
        (pair_among x y w.two (marked a row) (
          apart_active w.row,
          marked_to a row x w.holds_x w.active_x,
          marked_to a row y w.holds_y w.active_y,
          λ z i. let t = marked_from a row z i in w.no_third z t.0 t.1,
        ))
      where
        row : List ℕ
        row = row_at k w.row

        inside : w.row < height k
        inside =
            ⊎_elim (λ (l : w.row < height k). l)
            (λ (l : height k ≤ w.row). absurd (both_ways (member x (row_at k w.row)) (ap (member x) (get_or_past k.rows w.row [] l)) w.holds_x))
            (cases_lt w.row (height k))

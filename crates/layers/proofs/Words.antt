-- Codewords of layers.
use Rattle.std.proofs.Common.{◌≡◌, ℕ, ◌+◌, ◌-◌, ◌*◌, ◌<◌, ◌≤◌, true, List, [], map, length, get_or, sym, refl, ap, ◌∙◌, subst, ⊎_elim, mul_comm, arith}
use mathlib.Core.List.{map-map}
use Rattle.std.proofs.lemmas.List.FromFn.{length-map-range_with_len, get_or-map-range_with_len}
use Rattle.std.proofs.ByRecursion.{All-get_or, All-from_get_or}
use Rattle.std.proofs.lemmas.List.{ext_get_or, get_or_past}
use Rattle.std.proofs.lemmas.Bool.{cases_lt}
use Rattle.symbols.specs.Kinds.{Kind}
use Rattle.symbols.specs.Sums.{total, picked, sum_at}
use Rattle.codes.specs.Codewords.{Codeword}
use Rattle.codes.specs.Matrix.{Matrix, row_at, height}
use Rattle.codes.specs.Shapes.{shape_of}
use Rattle.layers.specs.LayerLaws.{squares_parts, turn_in, turn_large, turn_back, stack_parts}
use Rattle.layers.specs.Layers.{turn, squares_fit, interleaved, stack_fits, stacked}
use Rattle.layers.specs.Permutations.{permuted, InterleavedCodewords, StackedCodewords}
use Rattle.layers.proofs.Interleavings.{interleaved_at}
use Rattle.layers.proofs.Orders.{moved_back, same_width}
use Rattle.layers.proofs.Stacks.{stacked_yes, in_first, in_second}

module _ {S : Type 0} (K : Kind S) where
  -- a row's places sum to zero
  abbrev Checks : List S → List ℕ → Type 0
  Checks w row = sum_at K.zero K.sum w row ≡ K.zero

  -- a codeword by its rows, also those past the end
  checks : (k : Matrix) (w : List S) → Codeword K k w → (r : ℕ) → Checks w (row_at k r)
  checks k w p r =
      ⊎_elim
      (λ (h : r < height k). All-get_or (Checks w) k.rows r [] h p.sums)
      (λ (h : height k ≤ r). ap (sum_at K.zero K.sum w) (get_or_past k.rows r [] h))
      (cases_lt r (height k))

  codeword : (k : Matrix) (w : List S) → length w ≡ k.width → ((r : ℕ) → Checks w (row_at k r)) → Codeword K k w
  codeword k w e h = record { wide = e; sums = All-from_get_or (Checks w) k.rows [] (λ r _. h r) }

  -- a permuted word has the same symbols at the permuted columns
  module _ (p q : ℕ) (w : List S) (e : length w ≡ p * q) where
    permuted_at : (c : ℕ) → get_or (permuted K.zero (turn q p) w) (turn p q c) K.zero ≡ get_or w c K.zero
    permuted_at c =
        ⊎_elim
        (λ (h : c < p * q).
        get_or-map-range_with_len (λ c. get_or w (turn q p c) K.zero) 0 (length w) (turn p q c) (turn p q c) K.zero (omega (arith, turn_in p q c (p * q) refl h)) (omega arith)
        ∙ ap (λ c. get_or w c K.zero) (turn_back p q c))
        (λ (h : p * q ≤ c).
        ap (λ c. get_or (permuted K.zero (turn q p) w) c K.zero) (turn_large p q c h)
        ∙ get_or_past (permuted K.zero (turn q p) w) c K.zero (omega (arith, length-map-range_with_len (λ c. get_or w (turn q p c) K.zero) 0 (length w)))
        ∙ sym (get_or_past w c K.zero (omega arith)))
        (cases_lt c (p * q))

    picked_same : (row : List ℕ) → picked K.zero (permuted K.zero (turn q p) w) (map (turn p q) row) ≡ picked K.zero w row
    picked_same row = map-map (λ c. get_or (permuted K.zero (turn q p) w) c K.zero) (turn p q) row ∙ ap (λ h. map h row) (λ i c. permuted_at c i)

    checks_same : (row : List ℕ) → Checks w row → Checks (permuted K.zero (turn q p) w) (map (turn p q) row)
    checks_same row h = ap (total K.zero K.sum) (picked_same row) ∙ h

    permuted_length : length (permuted K.zero (turn q p) w) ≡ length w
    permuted_length = length-map-range_with_len (λ c. get_or w (turn q p c) K.zero) 0 (length w)

  -- a word permuted and permuted back
  permuted_back : (p q : ℕ) (w : List S) → length w ≡ p * q → permuted K.zero (turn q p) (permuted K.zero (turn p q) w) ≡ w
  permuted_back p q w e =
      let v = permuted K.zero (turn p q) w in
      let ev : length v ≡ q * p = permuted_length q p w (e ∙ mul_comm p q) ∙ e ∙ mul_comm p q in
      let long : length (permuted K.zero (turn q p) v) ≡ length w = permuted_length p q v (ev ∙ mul_comm q p) ∙ permuted_length q p w (e ∙ mul_comm p q) in
      ext_get_or K.zero (permuted K.zero (turn q p) v) w long
      (λ c h.
      ap (λ c. get_or (permuted K.zero (turn q p) v) c K.zero) (sym (turn_back q p c))
      ∙ permuted_at p q v (ev ∙ mul_comm q p) (turn q p c)
      ∙ permuted_at q p w (e ∙ mul_comm p q) c)

  pub interleaved_codewords : (a b z : ℕ) (k : Matrix) → squares_fit a b z (shape_of k) ≡ true → InterleavedCodewords K a b z k
  interleaved_codewords a b z k f =
      let wide : k.width ≡ b * z = (squares_parts a b z k f).1 in
      let same : (interleaved a b z k).width ≡ k.width = same_width a b z k f in
      record {
        above = λ v h.
            let e : length v ≡ b * z = h.wide ∙ wide in
            let P : List ℕ → Type 0 = Checks (permuted K.zero (turn z b) v) in
            codeword (interleaved a b z k) (permuted K.zero (turn z b) v) (permuted_length b z v e ∙ h.wide ∙ sym same)
            (λ r. subst P (sym (interleaved_at a b z k f r)) (checks_same b z v e (row_at k (turn z a r)) (checks k v h (turn z a r))));
        below = λ w h.
            let e : length w ≡ b * z = h.wide ∙ same ∙ wide in
            let P : List ℕ → Type 0 = Checks (permuted K.zero (turn b z) w) in (
              codeword k (permuted K.zero (turn b z) w) (permuted_length z b w (e ∙ mul_comm b z) ∙ h.wide ∙ same)
                  (λ r. subst P (moved_back a b z k f r) (checks_same z b w (e ∙ mul_comm b z) (row_at (interleaved a b z k) (turn a z r)) (checks (interleaved a b z k) w h (turn a z r)))),
              permuted_back b z w e,
            );
      }

  module _ (k l : Matrix) (f : stack_fits k l ≡ true) where
    in_upper : (r : ℕ) → row_at (stacked k l) (height k + r) ≡ row_at l r
    in_upper r = in_second k l (height k + r) (height k) f refl (omega arith) ∙ ap (row_at l) (omega arith)

    checks_joined : (w : List S) → Codeword K k w → Codeword K l w → (r : ℕ) → Checks w (row_at (stacked k l) r)
    checks_joined w p q r =
        ⊎_elim
        (λ (h : r < height k). subst (Checks w) (sym (in_first k l r h)) (checks k w p r))
        (λ (h : height k ≤ r). subst (Checks w) (sym (in_second k l r (height k) f refl h)) (checks l w q (r - height k)))
        (cases_lt r (height k))

    checks_first : (w : List S) → Codeword K (stacked k l) w → (r : ℕ) → Checks w (row_at k r)
    checks_first w p r =
        ⊎_elim
        (λ (h : r < height k). subst (Checks w) (in_first k l r h) (checks (stacked k l) w p r))
        (λ (h : height k ≤ r). ap (sum_at K.zero K.sum w) (get_or_past k.rows r [] h))
        (cases_lt r (height k))

    pub stacked_codewords : StackedCodewords K k l
    stacked_codewords =
        let same : (stacked k l).width ≡ k.width = ap (λ x. x.width) (stacked_yes k l f) in
        let level = (stack_parts k l f).level in
        record {
          both = λ w p. (
            codeword k w (p.wide ∙ same) (checks_first w p),
            codeword l w (p.wide ∙ same ∙ level) (λ r. subst (Checks w) (in_upper r) (checks (stacked k l) w p (height k + r))),
          );
          joined = λ w p q. codeword (stacked k l) w (p.wide ∙ sym same) (checks_joined w p q);
        }

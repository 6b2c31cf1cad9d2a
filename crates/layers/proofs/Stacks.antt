-- The rows and sizes of a stacked code, from those of its two codes.
use Rattle.std.proofs.Common.{◌≡◌, ℕ, ◌+◌, ◌-◌, ◌<◌, ◌≤◌, true, false, [], ◌++◌, length, sym, ap, ◌∙◌, ⊎_elim}
use Rattle.std.proofs.lemmas.List.{length-append, get_or_append_left, get_or-append_right}
use Rattle.std.proofs.lemmas.List.Sums.{sum_by-append}
use Rattle.std.proofs.lemmas.Bool.{cond-true, cond-false, cases_Bool}
use Rattle.codes.specs.Matrix.{Matrix, height, ones, row_at}
use Rattle.codes.specs.Shapes.{shape_of}
use Rattle.codes.specs.declared.shape.Shape.{Shape}
use Rattle.layers.specs.Layers.{stacked, stack_fits}

module _ (k l : Matrix) where
  pub stacked_yes : stack_fits k l ≡ true → stacked k l ≡ record { width = k.width; rows = k.rows ++ l.rows }
  stacked_yes f = cond-true (stack_fits k l) (record { width = k.width; rows = k.rows ++ l.rows }) k f

  stacked_no : stack_fits k l ≡ false → stacked k l ≡ k
  stacked_no f = cond-false (stack_fits k l) (record { width = k.width; rows = k.rows ++ l.rows }) k f

  stacked_height : stack_fits k l ≡ true → height k + height l ≡ height (stacked k l)
  stacked_height f = sym (ap height (stacked_yes f) ∙ length-append k.rows l.rows)

  stacked_ones : stack_fits k l ≡ true → ones k + ones l ≡ ones (stacked k l)
  stacked_ones f = sym (ap ones (stacked_yes f) ∙ sum_by-append length k.rows l.rows)

  pub stacked_shape : (s t : Shape) → s ≡ shape_of k → t ≡ shape_of l → stack_fits k l ≡ true → ◌≡◌ {A = Shape} (record { rows = s.rows + t.rows; columns = s.columns; ones = s.ones + t.ones }) (shape_of (stacked k l))
  stacked_shape s t p q f =
      ap (λ (u : Shape). record { rows = u.rows + t.rows; columns = u.columns; ones = u.ones + t.ones }) p
      ∙ ap (λ (u : Shape). record { rows = height k + u.rows; columns = k.width; ones = ones k + u.ones }) q
      ∙ λ i. record { rows = stacked_height f i; columns = sym (ap (λ x. x.width) (stacked_yes f)) i; ones = stacked_ones f i }

  pub in_second : (r m : ℕ) → stack_fits k l ≡ true → m ≡ height k → m ≤ r → row_at (stacked k l) r ≡ row_at l (r - m)
  in_second r m f e h = ap (λ x. row_at x r) (stacked_yes f) ∙ get_or-append_right k.rows l.rows m r [] (sym e) h

  pub in_first : (r : ℕ) → r < height k → row_at (stacked k l) r ≡ row_at k r
  in_first r h =
      ⊎_elim
      (λ (f : stack_fits k l ≡ true). ap (λ x. row_at x r) (stacked_yes f) ∙ get_or_append_left k.rows l.rows [] r h)
      (λ (f : stack_fits k l ≡ false). ap (λ x. row_at x r) (stacked_no f))
      (cases_Bool (stack_fits k l))

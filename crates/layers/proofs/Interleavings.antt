-- The rows and sizes of an interleaved code, from those below.
use Rattle.std.proofs.Common.{◌≡◌, ℕ, ◌<◌, ◌≤◌, true, false, [], map, length, sym, ap, ◌∙◌, ⊎_elim, mul_comm, arith}
use Rattle.std.specs.List.{slice_get}
use Rattle.std.specs.Option.{option_map}
use Rattle.std.proofs.iter.runs.Lists.{slice_get-map}
use Rattle.std.proofs.lemmas.List.{length-map, get_or_past}
use Rattle.std.proofs.lemmas.Bool.{cond-true, cond-false, cases_Bool, cases_lt}
use Rattle.codes.specs.Matrix.{Matrix, height, ones, row_at, weight, column_at}
use Rattle.codes.specs.Shapes.{shape_of}
use Rattle.codes.specs.Tables.{table, table_at, table_past, table_height}
use Rattle.layers.specs.LayerLaws.{squares_parts, turned_ones, turn_large}
use Rattle.layers.specs.Layers.{turn, squares_fit, interleaved, interleaved_row}

module _ (a b z : ℕ) (k : Matrix) (f : squares_fit a b z (shape_of k) ≡ true) where
  pub interleaved_yes : interleaved a b z k ≡ table (height k) k.width (interleaved_row a b z k)
  interleaved_yes = cond-true (squares_fit a b z (shape_of k)) (table (height k) k.width (interleaved_row a b z k)) k f

  interleaved_past : (r : ℕ) → height k ≤ r → row_at (interleaved a b z k) r ≡ map (turn b z) (row_at k (turn z a r))
  interleaved_past r h =
      ap (λ x. row_at x r) interleaved_yes
      ∙ table_past (height k) k.width (interleaved_row a b z k) r h
      ∙ sym (ap (map (turn b z)) (ap (row_at k) (turn_large z a r (omega (arith, (squares_parts a b z k f).0, mul_comm a z))) ∙ get_or_past k.rows r [] h))

  -- row r, also past the end
  pub interleaved_at : (r : ℕ) → row_at (interleaved a b z k) r ≡ map (turn b z) (row_at k (turn z a r))
  interleaved_at r =
      ⊎_elim
      (λ (h : r < height k). ap (λ x. row_at x r) interleaved_yes ∙ table_at (height k) k.width (interleaved_row a b z k) r h)
      (interleaved_past r)
      (cases_lt r (height k))

  interleaved_height : height k ≡ height (interleaved a b z k)
  interleaved_height = sym (ap height interleaved_yes ∙ table_height (height k) k.width (interleaved_row a b z k))

  interleaved_ones : ones k ≡ ones (interleaved a b z k)
  interleaved_ones = sym (ap ones interleaved_yes ∙ turned_ones a b z k (squares_parts a b z k f).0)

  sizes_kept : shape_of k ≡ shape_of (interleaved a b z k)
  sizes_kept = λ i. record { rows = interleaved_height i; columns = sym (ap (λ x. x.width) interleaved_yes) i; ones = interleaved_ones i }

  pub weight_turned : (r : ℕ) → weight (interleaved a b z k) r ≡ weight k (turn z a r)
  weight_turned r = ap length (interleaved_at r) ∙ length-map (row_at k (turn z a r)) (turn b z)

  pub column_turned : (r i : ℕ) → column_at (interleaved a b z k) r i ≡ option_map (turn b z) (column_at k (turn z a r) i)
  column_turned r i = ap (λ row. slice_get row i) (interleaved_at r) ∙ slice_get-map (turn b z) (row_at k (turn z a r)) i

-- an interleaved code has the sizes of the code below
pub interleaved_shape : (a b z : ℕ) (k : Matrix) → shape_of k ≡ shape_of (interleaved a b z k)
interleaved_shape a b z k =
    ⊎_elim
    (sizes_kept a b z k)
    (λ (f : squares_fit a b z (shape_of k) ≡ false). sym (ap shape_of (cond-false (squares_fit a b z (shape_of k)) (table (height k) k.width (interleaved_row a b z k)) k f)))
    (cases_Bool (squares_fit a b z (shape_of k)))

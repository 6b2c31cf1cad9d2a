-- An interleaved code, read through the maps of its rows and columns.
use Rattle.std.proofs.Common.{◌≡◌, ℕ, ◌*◌, true, List, [], map, sym, refl, ap, ◌∙◌, map-id}
use mathlib.Core.List.{map-map}
use Rattle.std.proofs.lemmas.List.FromFn.{fill_by_all}
use Rattle.codes.specs.Matrix.{Matrix, row_at, height}
use Rattle.codes.specs.Shapes.{shape_of}
use Rattle.codes.specs.Tables.{table, table_height}
use Rattle.layers.specs.LayerLaws.{turn_in, turn_back}
use Rattle.layers.specs.Layers.{turn, squares_fit, interleaved, interleaved_row}
use Rattle.layers.specs.Permutations.{Permutation, read_through, Interleaving}
use Rattle.layers.proofs.Interleavings.{interleaved_yes, interleaved_at}

permutation : (p q : ℕ) → Permutation p q
permutation p q = record { stays = λ i h. turn_in p q i (p * q) refl h; undone = turn_back p q }

-- a row turned and turned back
map_back : (f g : ℕ → ℕ) → ((c : ℕ) → g (f c) ≡ c) → (xs : List ℕ) → map g (map f xs) ≡ xs
map_back f g back xs = map-map g f xs ∙ ap (λ h. map h xs) (λ i c. back c i) ∙ map-id xs

-- a matrix read row by row is itself
read_rows : (k : Matrix) → table (height k) k.width (row_at k) ≡ k
read_rows k = λ i. record { width = k.width; rows = sym (fill_by_all (row_at k) k.rows (height k) [] refl (λ r _. refl)) i }

module _ (a b z : ℕ) (k : Matrix) (f : squares_fit a b z (shape_of k) ≡ true) where
  moved : (r : ℕ) → row_at (interleaved a b z k) (turn a z r) ≡ map (turn b z) (row_at k r)
  moved r = interleaved_at a b z k f (turn a z r) ∙ ap (λ s. map (turn b z) (row_at k s)) (turn_back a z r)

  pub moved_back : (r : ℕ) → map (turn z b) (row_at (interleaved a b z k) (turn a z r)) ≡ row_at k r
  moved_back r = ap (map (turn z b)) (moved r) ∙ map_back (turn b z) (turn z b) (turn_back b z) (row_at k r)

  same_height : height (interleaved a b z k) ≡ height k
  same_height = ap height (interleaved_yes a b z k f) ∙ table_height (height k) k.width (interleaved_row a b z k)

  pub same_width : (interleaved a b z k).width ≡ k.width
  same_width = ap (λ x. x.width) (interleaved_yes a b z k f)

  read_back : read_through (turn a z) (turn z b) (interleaved a b z k) ≡ k
  read_back =
      ap (table (height (interleaved a b z k)) (interleaved a b z k).width) (λ i r. moved_back r i)
      ∙ ap (λ m. table m (interleaved a b z k).width (row_at k)) same_height
      ∙ ap (λ n. table (height k) n (row_at k)) same_width
      ∙ read_rows k

  pub interleaving : Interleaving a b z k
  interleaving = record {
    rows = (permutation a z, permutation z a);
    columns = (permutation b z, permutation z b);
    moved = moved;
    back = read_back;
  }

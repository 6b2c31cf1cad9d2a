-- Laws of rows and columns. (Lemmas: nothing here is to be believed.)
--
--   row_lawful    every row of a lawful matrix keeps its rule, one past the end too
--   not_member    a column below all those listed is not listed
use Rattle.std.specs.Prelude.{◌≡◌, ℕ, ◌<◌, ◌≤◌, false, List, [], ◌∷◌, ◌==◌, refl}
use Rattle.std.proofs.Common.{sym, subst, ⊎_elim, arith}
use Rattle.std.specs.List.{AllByRecursion}
use Rattle.std.proofs.ByRecursion.{All-get_or}
use Rattle.std.proofs.lemmas.List.{get_or_past}
use Rattle.std.proofs.lemmas.Bool.{cases_lt, ne_eqb, or_from}
use Rattle.codes.specs.Matrix.{Matrix, Row, Lawful, member, height, row_at}

pub row_lawful : (k : Matrix) → Lawful k → (r : ℕ) → Row k.width (row_at k r)
row_lawful k p r =
    ⊎_elim
    (λ (h : r < height k). All-get_or (Row k.width) k.rows r [] h p.each)
    (λ (h : height k ≤ r). let P : List ℕ → Type 0 = Row k.width in subst P (sym (get_or_past k.rows r [] h)) (record { within = tt; apart = tt }))
    (cases_lt r (height k))

pub not_member : (x : ℕ) (xs : List ℕ) → AllByRecursion (λ c. x < c) xs → member x xs ≡ false
not_member x [] h = refl
not_member x (c ∷ cs) h = or_from (c == x) (member x cs) (ne_eqb c x (λ e. omega (arith, h.0))) (not_member x cs h.1)

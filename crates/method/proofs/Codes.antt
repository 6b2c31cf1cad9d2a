-- A code's rows and the rows that a search starts with have the same solutions.
use Rattle.std.proofs.Common.{◌≡◌, ℕ, zero, suc, ◌<◌, Bool, true, List, [], ◌∷◌, map, length, sym, refl, ap, ◌∙◌, subst, ap₂}
use Rattle.std.specs.List.{AllByRecursion}
use Rattle.symbols.specs.Kinds.{Kind, Laws}
use Rattle.codes.specs.Matrix.{Row as LawfulRow}
use Rattle.method.specs.Sets.{has, marked}
use Rattle.method.specs.Method.{missing, start_row}
use Rattle.method.proofs.Marks.{marked_lawful}
use Rattle.method.proofs.Sums.{sum_over, at, sum_of, sum_move, total_marks, total_split, total_same}
use Rattle.method.proofs.Rows.{Solves}

module _ {S : Type 0} {K : Kind S} (L : Laws K) (n : ℕ) (got : List Bool) (wide : length got ≡ n) (syms w : List S)
    (agrees : (c : ℕ) → has got c ≡ true → at K w c ≡ at K syms c) where
  -- a row's sum is that over its set and its right side
  row_sum : (row : List ℕ) → LawfulRow n row → sum_of K w row ≡ K.sum (sum_over K (start_row K n got syms row).cols (at K w)) (start_row K n got syms row).right
  row_sum row ok =
      total_split L got w row (subst (λ l. AllByRecursion (λ c. c < l) row) (sym wide) ok.within)
      ∙ ap₂ K.sum (total_marks L n (marked (missing got) row) (marked_lawful n (missing got) row ok) w) (total_same L got w syms agrees row)

  pub code_solves : (rows : List (List ℕ)) → AllByRecursion (LawfulRow n) rows → AllByRecursion (λ row. sum_of K w row ≡ K.zero) rows → Solves K (map (start_row K n got syms) rows) (at K w)
  code_solves [] ok z i = refl
  code_solves (row ∷ rows) ok z zero =
      sum_move L (sum_over K (start_row K n got syms row).cols (at K w)) (start_row K n got syms row).right K.zero (sym (row_sum row ok.0) ∙ z.0)
      ∙ L.sums.identity (start_row K n got syms row).right
  code_solves (row ∷ rows) ok z (suc i) = code_solves rows ok.1 z.1 i

  pub solves_code : (rows : List (List ℕ)) → AllByRecursion (LawfulRow n) rows → Solves K (map (start_row K n got syms) rows) (at K w) → AllByRecursion (λ row. sum_of K w row ≡ K.zero) rows
  solves_code [] ok s = tt
  solves_code (row ∷ rows) ok s = (
    row_sum row ok.0 ∙ ap (λ x. K.sum x (start_row K n got syms row).right) (s 0) ∙ L.cancels (start_row K n got syms row).right,
    solves_code rows ok.1 (λ i. s (suc i)),
  )

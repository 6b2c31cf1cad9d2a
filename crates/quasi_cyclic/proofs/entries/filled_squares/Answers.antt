use Rattle.std.proofs.Common.{ℕ, ℤ, pos, ◌≤◌, ◌*◌, Option, Some, None, List, length, get_or, rules, tests, arith}
use Rattle.std.proofs.lemmas.List.Elements.{All-from_get_or}
use Rattle.std.proofs.lemmas.List.Sums.{sum_by-le}
use Rattle.std.proofs.lemmas.Iterator.{YieldsList-from_slice, YieldsList-from_map}
use Rattle.std.proofs.lemmas.Iterator.Consumers.{fits_by_from_yields_list}
use Rattle.quasi_cyclic.specs.Entries.{filled, shift_of, filled_squares}
use Rattle.quasi_cyclic.proofs.entries.filled_squares.Goals as goal

one : (o : Option ℕ) → filled o ≤ 1
one (Some s) = omega arith
one None = omega arith

few : (es : List ℤ) → filled_squares es ≤ length es * 1
few es = sum_by-le (λ e. filled (shift_of e)) 1 es (All-from_get_or (λ e. filled (shift_of e) ≤ 1) es (pos 0) (λ i _. one (shift_of (get_or es i (pos 0)))))

pub sum-requires-clause-fits : goal.sum-requires-clause-fits
sum-requires-clause-fits c =
    let es = c.args.entries.now in
    fits_by_from_yields_list (λ e. filled (shift_of e)) es c.map.result _ (YieldsList-from_map _ (λ e. filled (shift_of e)) (YieldsList-from_slice es cc) c.map.ensures.closure (λ x r q k. search (rules, tests))) (omega (arith, few es))

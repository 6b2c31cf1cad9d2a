-- From the promise over all histories to what restoring a byte answers.
use Rattle.std.proofs.Common.{◌≡◌, ℕ, ◌<◌, ◌≤◌, true, cond, not, ◌↔◌, List, [], ◌∷◌, length, get_or, Some, None, Ok, Err, Option, Result, sym, refl, ap, ◌∙◌, subst, arith}
use Rattle.std.specs.List.{slice_get, range_with_len}
use Rattle.std.specs.Result.{result_ok}
use Rattle.std.proofs.lemmas.Bool.{and_from, eq-eqb, lt-leb}
use Rattle.std.proofs.lemmas.List.FromFn.{fill_by_all}
use Rattle.std.proofs.lemmas.Option.{slice_get-get_or, slice_get_within, same_Some, none-some}
use Rattle.symbols.specs.Sums.{total, sum_at}
use Rattle.receiver.specs.declared.fault.Fault.{Fault}
use Rattle.receiver.specs.declared.fault.Fault.TheVariants.{PermitOut, OtherWidth, NoPlace, NotItsPermit}
use Rattle.receiver.specs.declared.fault.Unsolved.{Unsolved}
use Rattle.receiver.specs.declared.fault.Unsolved.TheVariants.{Refused, NoCodeword, Several}
use Rattle.receiver.specs.declared.permit.Permit.{Permit}
use Rattle.receiver.specs.Calls.{Search, is_out, owns, refusal}
use Rattle.receiver.specs.Calls.Call.{solve, show}
use Rattle.receiver.specs.History.{Opened, Told, Agrees, Truth, told, view}
use Rattle.receiver.specs.Blocks.{Block}
use Rattle.receiver.specs.Steps.{shown_event}
use Rattle.receiver.specs.Solves.{search_of, solve_event}
use Rattle.receiver.specs.Stands.{Stands, GoesOn, opening}
use Rattle.guests.specs.Bytes.{byte_of, byte_sum, byte_kind}
use Rattle.guests.specs.Parities.{parity_matrix}
use Rattle.guests.specs.Restoring.{Fits, Settles}
use Rattle.guests.specs.Hearing.{Taken, Heard}
use Rattle.guests.specs.declared.byte.Byte.{Byte}

-- a result that has a permit is that permit
pub given : (r : Result Permit Unsolved) (q : Permit) → result_ok r ≡ Some q → r ≡ Ok q
given (Ok p) q e = ap Ok (same_Some p q e)
given (Err f) q e = absurd (none-some q e)

module _ (heard : List (Option Byte)) where
  abbrev pub n : ℕ
  n = length heard

  abbrev pub o : Opened
  o = opening 0 1 n

  abbrev pub s : Search
  s = search_of (parity_matrix n) 8 1

  -- the sum at all places is the sum of all
  sum_whole : (w : List Byte) → length w ≡ n → total (byte_of 0) byte_sum w ≡ sum_at (byte_of 0) byte_sum w (range_with_len 0 n)
  sum_whole w e = ap (total (byte_of 0) byte_sum) (fill_by_all (λ c. get_or w c (byte_of 0)) w n (byte_of 0) e (λ k l. refl))

  module _ (t : Told Byte) (taken : Taken heard n t) (w : List Byte) where
    fits : Agrees byte_kind t.packets (parity_matrix n) w → Fits heard w
    fits a = record { wide = a.codeword.wide; sums = sum_whole w a.codeword.wide ∙ a.codeword.sums.0; agrees = (taken.same w).0 a.has_each }

    agrees : Fits heard w → Agrees byte_kind t.packets (parity_matrix n) w
    agrees f = record {
      codeword = record { wide = f.wide; sums = (sym (sum_whole w f.wide) ∙ f.sums, tt) };
      has_each = (taken.same w).1 f.agrees;
    }

  -- a search with the code of a column for each place, of what was heard
  module _ (m m' : Block Byte) (h : Heard heard n m) (k : ℕ) (wide : k ≡ n) (cs : List ℕ) (r : Result Permit Unsolved)
      (goes : GoesOn byte_kind m (solve_event (search_of (parity_matrix k) 8 1) cs r ∷ []) m') (place : ℕ) (x : Byte) where
    abbrev t : Told Byte
    t = told o h.history

    -- it ended so
    ended : (z : Result Permit Unsolved) → r ≡ z → Stands byte_kind o (solve_event s cs z ∷ h.history) m'
    ended z e = subst (λ v. Stands byte_kind o (solve_event s cs v ∷ h.history) m') e (subst (λ c. Stands byte_kind o (solve_event (search_of (parity_matrix c) 8 1) cs r ∷ h.history) m') wide (goes o h.history h.stands))

    -- without a permit: nothing is settled
    pub unsettled : result_ok r ≡ None → Settles heard place x → ⊥
    unsettled none l = by r refl
      where
        same : (w : List Byte) → Agrees byte_kind t.packets (parity_matrix n) w → w ≡ l.bytes
        same w a = l.only.1 w (fits t h.taken w a)

        go : (e : Unsolved) → Truth byte_kind o t (solve_event s cs (Err e)) → ⊥
        go (Refused f) u =
            let granted : refusal byte_kind (view o t) (solve s) ≡ None = λ j. cond (is_out (h.taken.none_out j)) (Some (PermitOut t.stamp)) (cond (not (eq-eqb n n refl j)) (Some (OtherWidth n)) None) in
            none-some f (sym granted ∙ u)
        go (NoCodeword r) u = u.none_when.0 refl l.bytes (agrees t h.taken l.bytes l.only.0)
        go (Several r k) u = let two = u.several_when.0 refl in two.4 (same two.0 two.2 ∙ sym (same two.1 two.3))

        by : (z : Result Permit Unsolved) → r ≡ z → ⊥
        by (Ok q) e = none-some q (sym none ∙ ap result_ok e)
        by (Err f) e = go f (ended (Err f) e).truths.0

    -- with one: what is then shown is what is settled
    pub settled : (q : Permit) → result_ok r ≡ Some q → n ≤ 512 → (v : Result Byte Fault) → GoesOn byte_kind m' (shown_event q place v ∷ []) m' → (result_ok v ≡ Some x) ↔ Settles heard place x
    settled q some few v shows = go v (shows o (solve_event s cs (Ok q) ∷ h.history) stands).truths.0
      where
        stands : Stands byte_kind o (solve_event s cs (Ok q) ∷ h.history) m'
        stands = ended (Ok q) (given r q some)

        go : (v : Result Byte Fault) → Truth byte_kind o (told o (solve_event s cs (Ok q) ∷ h.history)) (shown_event q place v) → (result_ok v ≡ Some x) ↔ Settles heard place x
        go (Ok y) u =
            let w = u.in_found.0 in
            let found = u.in_found.1 in
            let there : slice_get w place ≡ Some y = slice_get-get_or w place (byte_of 0) u.in_found.2 ∙ ap Some (sym u.in_found.3) in (
              λ e. record { bytes = w; only = (fits t h.taken w found.0, λ z f. found.1 z (agrees t h.taken z f)); few = few; there = there ∙ e },
              λ l. sym there ∙ ap (λ z. slice_get z place) (sym (found.1 l.bytes (agrees t h.taken l.bytes l.only.0))) ∙ l.there,
            )
        go (Err f) u = (
          λ e. absurd (none-some x e),
          λ l. let low : place < n = omega (arith, slice_get_within l.bytes place x l.there, l.only.0.wide) in
              let bears = stands.truths.0.bears in
              let owned : owns (view o (told o (solve_event s cs (Ok q) ∷ h.history))) q ≡ true = and_from _ _ (eq-eqb q.number 0 bears.0) (eq-eqb q.stamp t.stamp bears.1) in
              let granted : refusal byte_kind (view o (told o (solve_event s cs (Ok q) ∷ h.history))) (show q place) ≡ None = λ j. cond (not (owned j)) (Some (NotItsPermit t.stamp)) (cond (lt-leb n place low j) (Some (NoPlace place)) None) in
              absurd (none-some f (sym granted ∙ u)),
        )

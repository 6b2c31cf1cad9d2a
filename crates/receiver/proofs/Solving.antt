-- What a solve leaves, from the search that it makes over the places of its block.
use Rattle.std.proofs.Common.{◌≡◌, ℕ, ◌*◌, ◌≤◌, Bool, true, false, cond, not, List, ◌++◌, length, take, drop, Some, None, Ok, Err, Option, Result, sym, refl, ap, ◌∙◌, length-take-le, eq-eqb}
use Rattle.std.proofs.lemmas.List.{take-append-drop}
use Rattle.refusals.specs.Refusals.{first_of}
use Rattle.symbols.specs.Kinds.{Kind}
use Rattle.codes.specs.Matrix.{Matrix, height}
use Rattle.method.specs.Method.{Choice, Outcome, method, final}
use Rattle.method.specs.Method.Outcome.{none, one, several}
use Rattle.search.specs.declared.answer.Unfound.{Unfound}
use Rattle.search.specs.declared.answer.Unfound.TheVariants as lacks
use Rattle.search.specs.declared.answer.Report.{Report}
use Rattle.search.specs.Answers.{told, short, causes}
use Rattle.search.specs.Found.{wiped}
use Rattle.search.specs.Searches as searches
use Rattle.receiver.specs.declared.block.Out.{Out}
use Rattle.receiver.specs.declared.block.Out.TheVariants.{Full}
use Rattle.receiver.specs.declared.fault.Fault.{Fault}
use Rattle.receiver.specs.declared.fault.Fault.TheVariants as fault
use Rattle.receiver.specs.declared.fault.Unsolved.{Unsolved}
use Rattle.receiver.specs.declared.permit.Permit.{Permit}
use Rattle.receiver.specs.Calls.{refusal, is_out}
use Rattle.receiver.specs.Calls.Call.{solve}
use Rattle.receiver.specs.Blocks.{Block, seen, with_table}
use Rattle.receiver.specs.Solves.{Done, as_unsolved, search_of, found_of, after_search, answer_of, outcome, solved, solved_by}

-- the permit that a search's report is given with
abbrev pub answered : {S : Type 0} → Block S → Result Report Unfound → Result Permit Unsolved
answered m (Ok q) = Ok (record { number = m.number; stamp = m.stamp; report = q })
answered m (Err e) = Err (as_unsolved e)

abbrev pub out_after : {S : Type 0} → Block S → Result Report Unfound → Out
out_after m (Ok q) = Full
out_after m (Err e) = m.out

-- what a search over the first n places of a block leaves, as that block's solve leaves it
abbrev pub on_block : {S P : Type 0} → ℕ → Block S → searches.Done S P → Done S P
on_block n m d = record {
  answer = answered m d.answer;
  block = with_table (d.table ++ drop n m.table) m.received (out_after m d.answer) m;
  policy = d.policy;
  words = d.words;
  sides = d.sides;
}

module _ {S P : Type 0} (K : Kind S) (choice : Matrix → Choice P) (k : Matrix) (m : Block S) (p : P) (ws : List ℕ) (ss : List S) where
  -- the search did not change the places
  untouched : with_table (take m.n m.table ++ drop m.n m.table) m.received m.out m ≡ m
  untouched = ap (λ xs. with_table xs m.received m.out m) (take-append-drop m.n m.table)

  told_block : (o : Outcome S) (q : P) (ws' : List ℕ) (ss' : List S)
      → on_block m.n m (searches.done (told o) (searches.filled_by o (take m.n m.table)) q ws' ss')
      ≡ record { answer = answer_of (found_of m o); block = after_search m o; policy = q; words = ws'; sides = ss' }
  told_block (none v a) q ws' ss' = λ i. record { answer = answer_of (found_of m (none v a)); block = untouched i; policy = q; words = ws'; sides = ss' }
  told_block (one v a w) q ws' ss' = refl
  told_block (several v a f) q ws' ss' = λ i. record { answer = answer_of (found_of m (several v a f)); block = untouched i; policy = q; words = ws'; sides = ss' }

  pub solve_searched : (d : searches.Done S P) (n : ℕ) → is_out m.out ≡ false → n ≡ m.n → k.width ≡ n → m.n ≤ length m.table
      → d ≡ searches.searched K choice k m.received (take n m.table) p ws ss → on_block n m d ≡ solved K choice k m p ws ss
  solve_searched d n free same wide fits done =
      ap (λ j. on_block j m d) same
      ∙ ap (on_block m.n m) (done ∙ ap (λ j. searches.searched K choice k m.received (take j m.table) p ws ss) same ∙ ap (λ o. searches.searched_by K choice k m.received (take m.n m.table) p ws ss o) lacking)
      ∙ go (short (height k) (length ws) (length ss))
      ∙ sym (ap (λ o. solved_by K choice k m p o ws ss) refusing)
    where
      width : k.width ≡ m.n
      width = wide ∙ same

      lack : Bool → Option Unfound
      lack b = cond b (Some (lacks.ShortMemory (height k))) None

      faulty : Bool → Option Fault
      faulty b = cond b (Some (fault.ShortMemory (height k))) None

      lacking : first_of (causes k (length (take m.n m.table)) (length ws) (length ss)) ≡ lack (short (height k) (length ws) (length ss))
      lacking = ap (λ b. cond (not b) (Some (lacks.OtherWidth k.width)) (lack (short (height k) (length ws) (length ss)))) (eq-eqb k.width (length (take m.n m.table)) (width ∙ sym (length-take-le m.n m.table fits)))

      refusing : refusal K (seen m) (solve (search_of k (length ws) (length ss))) ≡ faulty (short (height k) (length ws) (length ss))
      refusing = λ i. cond (free i) (Some (fault.PermitOut m.stamp)) (cond (not (eq-eqb k.width m.n width i)) (Some (fault.OtherWidth k.width)) (faulty (short (height k) (length ws) (length ss))))

      go : (b : Bool) → on_block m.n m (searches.searched_by K choice k m.received (take m.n m.table) p ws ss (lack b)) ≡ solved_by K choice k m p (faulty b) ws ss
      go true = λ i. record { answer = Err (as_unsolved (lacks.ShortMemory (height k))); block = untouched i; policy = p; words = ws; sides = ss }
      go false =
          ap (λ j. on_block m.n m (searches.done (told (method K (choice k) k (take j m.received) (take m.n m.table) p)) (searches.filled_by (method K (choice k) k (take j m.received) (take m.n m.table) p) (take m.n m.table))
          (final K (choice k) k (take j m.received) (take m.n m.table) p).policy (wiped 0 (8 * height k) ws) (wiped K.zero (height k) ss))) width
          ∙ told_block (outcome K choice k m p) _ _ _

-- What a solve does, by the method: its answer, the block, the policy and the working memory after it.
--
--   outcome       what the method answers on a block's received places, with a policy from a state of it
--   named         the columns that the policy names there
--   found_of      the answer of the search, with the block's numbers in the permit
--   after_search  the block after the search: with one codeword its places are filled and a permit is out
--   Done          all that a solve leaves
--   solved        what a solve leaves, of a block, a policy and working memory
--   solve_event   the event that a solve and its answer make
use Rattle.std.specs.Prelude.{ℕ, ◌*◌, List, ◌++◌, length, take, drop, Some, None, Ok, Err, Option, Result}
use Rattle.symbols.specs.Kinds.{Kind}
use Rattle.codes.specs.Matrix.{Matrix, height}
use Rattle.method.specs.Method.{Choice, Outcome, method, final}
use Rattle.method.specs.Method.Outcome.{none, one, several}
use Rattle.search.specs.declared.answer.Unfound.{Unfound}
use Rattle.search.specs.declared.answer.Unfound.TheVariants.{OtherWidth, ShortMemory}
use Rattle.search.specs.declared.answer.Unfound.TheVariants as lacks
use Rattle.search.specs.Answers.{report_of}
use Rattle.search.specs.Found.{wiped}
use Rattle.receiver.specs.declared.block.Out.TheVariants.{Full}
use Rattle.receiver.specs.declared.fault.Fault.{Fault}
use Rattle.receiver.specs.declared.fault.Fault.TheVariants as fault
use Rattle.receiver.specs.declared.fault.Unsolved.{Unsolved}
use Rattle.receiver.specs.declared.fault.Unsolved.TheVariants.{Refused, NoCodeword, Several}
use Rattle.receiver.specs.declared.permit.Permit.{Permit}
use Rattle.receiver.specs.Calls.{Search, refusal}
use Rattle.receiver.specs.Calls.Call.{solve}
use Rattle.receiver.specs.History.{Event, Found}
use Rattle.receiver.specs.History.Event.{refused, searched}
use Rattle.receiver.specs.History.Found.{permit, no_codeword, several_codewords}
use Rattle.receiver.specs.Blocks.{Block, seen, with_table}

-- what a solve is handed, as its refusals see it
abbrev pub search_of : Matrix → (words symbols : ℕ) → Search
search_of k ws ss = record { code = k; words = ws; symbols = ss }

abbrev pub found_of : {S : Type 0} → Block S → Outcome S → Found
found_of m (none p a) = no_codeword (report_of p a)
found_of m (one p a w) = permit (record { number = m.number; stamp = m.stamp; report = report_of p a })
found_of m (several p a k) = several_codewords (report_of p a) k

abbrev pub after_search : {S : Type 0} → Block S → Outcome S → Block S
after_search m (none p a) = m
after_search m (one p a w) = with_table (w ++ drop m.n m.table) m.received Full m
after_search m (several p a k) = m

abbrev pub answer_of : Found → Result Permit Unsolved
answer_of (permit q) = Ok q
answer_of (no_codeword r) = Err (NoCodeword r)
answer_of (several_codewords r k) = Err (Several r k)

abbrev pub solve_event : {S : Type 0} → Search → List ℕ → Result Permit Unsolved → Event S
solve_event s cs (Ok q) = searched s cs (permit q)
solve_event s cs (Err (Refused f)) = refused (solve s) f
solve_event s cs (Err (NoCodeword r)) = searched s cs (no_codeword r)
solve_event s cs (Err (Several r k)) = searched s cs (several_codewords r k)

pub record Done (S P : Type 0) : Type 0 where
  pub answer : Result Permit Unsolved
  pub block : Block S
  pub policy : P
  pub words : List ℕ
  pub sides : List S

module _ {S P : Type 0} (K : Kind S) (choice : Matrix → Choice P) (k : Matrix) (m : Block S) (p : P) where
  abbrev pub outcome : Outcome S
  outcome = method K (choice k) k (take m.n m.received) (take m.n m.table) p

  abbrev pub named : List ℕ
  named = (final K (choice k) k (take m.n m.received) (take m.n m.table) p).pivots

  abbrev pub solved_by : Option Fault → List ℕ → List S → Done S P
  solved_by (Some f) ws ss = record { answer = Err (Refused f); block = m; policy = p; words = ws; sides = ss }
  solved_by None ws ss = record {
    answer = answer_of (found_of m outcome);
    block = after_search m outcome;
    policy = (final K (choice k) k (take m.n m.received) (take m.n m.table) p).policy;
    words = wiped 0 (8 * height k) ws;
    sides = wiped K.zero (height k) ss;
  }

  abbrev pub solved : List ℕ → List S → Done S P
  solved ws ss = solved_by (refusal K (seen m) (solve (search_of k (length ws) (length ss)))) ws ss

-- why a search gave no codeword, as a solve tells it
abbrev pub as_unsolved : Unfound → Unsolved
as_unsolved (OtherWidth n) = Refused (fault.OtherWidth n)
as_unsolved (ShortMemory r) = Refused (fault.ShortMemory r)
as_unsolved (lacks.NoCodeword r) = NoCodeword r
as_unsolved (lacks.Several r k) = Several r k

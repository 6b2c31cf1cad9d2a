-- What a search does: its answer, and all that it leaves.
--
--   marks_in      the marks of the code's places
--   Done          what a whole search leaves
--   searched      what it leaves, of a code, a policy, a table, the received marks and working memory
--   Looked        a search whose codeword is still to be read out of the right sides
--   read_out      the table with the missing places read out
--   Tells         the answer of a search in the words of its subject
use Rattle.std.specs.Prelude.{◌≡◌, ℕ, ◌*◌, ◌<◌, Bool, true, false, cond, ◌↔◌, List, ◌++◌, length, take, drop, replicate, is_ok, Some, None, Ok, Err, Option, Result, slice_index_or}
use Rattle.refusals.specs.Refusals.{first_of}
use Rattle.symbols.specs.Kinds.{Kind}
use Rattle.codes.specs.Matrix.{Matrix, height}
use Rattle.method.specs.Sets.{has, table}
use Rattle.method.specs.Method.{Choice, State, Row, Outcome, none, one, several, missing, row_for, final, method}
use Rattle.method.specs.Fillings.{Agreeing, No, Only, One, Two}
use Rattle.method.specs.Stopping.{Stopping}
use Rattle.search.specs.declared.answer.Report.{Report}
use Rattle.search.specs.declared.answer.Unfound.{Unfound}
use Rattle.search.specs.declared.answer.Unfound.TheVariants.{OtherWidth, ShortMemory, NoCodeword, Several}
use Rattle.search.specs.declared.found.Found.{Found}
use Rattle.search.specs.Answers.{told, causes}
use Rattle.search.specs.Found.{symbol_at, wiped}

abbrev pub marks_in : Matrix → List Bool → List Bool
marks_in k received = take k.width received

pub record Done (S P : Type 0) : Type 0 where
  pub answer : Result Report Unfound
  pub table : List S
  pub policy : P
  pub words : List ℕ
  pub sides : List S

abbrev pub done : {S P : Type 0} → Result Report Unfound → List S → P → List ℕ → List S → Done S P
done r syms p ws ss = record { answer = r; table = syms; policy = p; words = ws; sides = ss }

-- the table after an answer: filled where it is one, and else as it was
abbrev pub filled_by : {S : Type 0} → Outcome S → List S → List S
filled_by (none p a) syms = syms
filled_by (one p a w) syms = w
filled_by (several p a f) syms = syms

-- a search's answer without what is to be read out
abbrev pub reported : Result Found Unfound → Result Report Unfound
reported (Ok f) = Ok f.report
reported (Err e) = Err e

-- the right sides after an answer: with one codeword the symbol of each column is read out of them, and the memory
-- beyond the first m is as it was; else they are as a whole search leaves them
abbrev pub Left : {S : Type 0} → Kind S → List (Row S) → ℕ → List S → List S → Result Found Unfound → List S → Type 0
Left K rows m ss whole (Ok f) ss' = ((c : ℕ) → c < 512 → symbol_at K f ss' c ≡ (row_for K c rows).right) × (drop m ss' ≡ drop m ss)
Left K rows m ss whole (Err e) ss' = ss' ≡ whole

-- the same in memory of just the m right sides, whatever may lie behind them
abbrev pub Stand : {S : Type 0} → Kind S → List (Row S) → ℕ → Result Found Unfound → List S → Type 0
Stand {S} K rows m (Ok f) ss = (rest : List S) (c : ℕ) → c < 512 → symbol_at K f (ss ++ rest) c ≡ (row_for K c rows).right
Stand K rows m (Err e) ss = ss ≡ replicate m K.zero

module _ {S P : Type 0} (K : Kind S) (choice : Matrix → Choice P) (k : Matrix) (received : List Bool) (syms : List S) (p : P) where
  -- the method's answer, and its last state
  abbrev pub outcome : Outcome S
  outcome = method K (choice k) k (marks_in k received) syms p

  abbrev pub end : State S P
  end = final K (choice k) k (marks_in k received) syms p

  -- a search in memory of just the size of the code
  pub record Run (p' : P) (ws : List ℕ) (ss : List S) (r : Result Found Unfound) : Type 0 where
    pub answer : reported r ≡ told outcome
    pub policy : p' ≡ end.policy
    pub words : ws ≡ replicate (8 * height k) 0
    pub sides : Stand K end.rows (height k) r ss

  module _ (ws : List ℕ) (ss : List S) where
    -- refused before it begins, nothing changes; else the method's answer, and memory of zeros
    abbrev pub searched_by : Option Unfound → Done S P
    searched_by (Some e) = done (Err e) syms p ws ss
    searched_by None =
        done (told outcome) (filled_by outcome syms) end.policy (wiped 0 (8 * height k) ws) (wiped K.zero (height k) ss)

    abbrev pub searched : Done S P
    searched = searched_by (first_of (causes k (length syms) (length ws) (length ss)))

    pub record Looked (p' : P) (ws' : List ℕ) (ss' : List S) (r : Result Found Unfound) : Type 0 where
      pub answer : reported r ≡ searched.answer
      pub policy : p' ≡ searched.policy
      pub words : ws' ≡ searched.words
      pub sides : Left K end.rows (height k) ss searched.sides r ss'

abbrev pub read_out : {S : Type 0} → Kind S → Found → List Bool → List S → List S → List S
read_out K f received ss syms =
    table (length syms) (λ c. cond (has received c) (slice_index_or syms c K.zero) (symbol_at K f ss c))

-- what an answer says
abbrev pub says_none : Result Report Unfound → Bool
says_none (Ok r) = false
says_none (Err (OtherWidth n)) = false
says_none (Err (ShortMemory m)) = false
says_none (Err (NoCodeword r)) = true
says_none (Err (Several r k)) = false

abbrev pub says_several : Result Report Unfound → Bool
says_several (Ok r) = false
says_several (Err (OtherWidth n)) = false
says_several (Err (ShortMemory m)) = false
says_several (Err (NoCodeword r)) = false
says_several (Err (Several r k)) = true

-- the pivots that it counts, 0 where it was refused before it began
abbrev pub pivots_in : Result Report Unfound → ℕ
pivots_in (Ok r) = r.pivots
pivots_in (Err (OtherWidth n)) = 0
pivots_in (Err (ShortMemory m)) = 0
pivots_in (Err (NoCodeword r)) = r.pivots
pivots_in (Err (Several r k)) = r.pivots

-- none, one or several exactly when no, just one, at least two codewords agree; the one is in the table; and no pivot
-- exactly when no stopping set lies among the missing places
pub record Tells {S : Type 0} (K : Kind S) (k : Matrix) (got : List Bool) (syms syms' : List S) (r : Result Report Unfound) : Type 0 where
  pub none_when : (says_none r ≡ true) ↔ No (Agreeing K k got syms)
  pub one_when : (is_ok r ≡ true) ↔ One (Agreeing K k got syms)
  pub several_when : (says_several r ≡ true) ↔ Two (Agreeing K k got syms)
  pub given : is_ok r ≡ true → Only (Agreeing K k got syms) syms'
  pub no_pivot_when : (pivots_in r ≡ 0) ↔ No (Stopping k (has (missing got)))

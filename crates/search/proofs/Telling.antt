-- What a whole search leaves, and what its answer tells.
use Rattle.std.proofs.Common.{◌≡◌, ℕ, ◌<◌, ◌≤◌, Bool, true, false, cond, not, eqb, ◌↔◌, List, [], ◌∷◌, ◌++◌, length, get_or, drop, replicate, is_ok, IsErrAnd, Some, None, Ok, Err, Option, Result, sym, refl, ap, ◌∙◌, ap₂, arith}
use Rattle.std.proofs.lemmas.List.{ext_get_or, get_or-take, length-take-le}
use Rattle.std.proofs.lemmas.Bool.{true≢false, false≢true, eqb-true}
use Rattle.refusals.specs.Refusals.{first_of}
use Rattle.symbols.specs.Kinds.{Kind, Laws}
use Rattle.codes.specs.Matrix.{Matrix, Lawful, height}
use Rattle.method.specs.Sets.{has, lowest}
use Rattle.method.specs.Method.{Choice, Outcome, none, one, several, missing, row_for, filled, clash, answer, answer_at, method}
use Rattle.method.specs.Choices.{Naming}
use Rattle.method.specs.Fillings.{Agreeing, No, Exactly, pivots_of}
use Rattle.method.specs.Stopping.{Stopping}
use Rattle.method.proofs.Marks.{get_or_table, length_table}
use Rattle.method.proofs.Tells.{tells_exactly}
use Rattle.method.proofs.Peeling.{pivots_tell}
use Rattle.search.specs.declared.answer.Report.{Report}
use Rattle.search.specs.declared.answer.Unfound.{Unfound}
use Rattle.search.specs.declared.answer.Unfound.TheVariants.{OtherWidth}
use Rattle.search.specs.declared.found.Found.{Found}
use Rattle.search.specs.Answers.{told, causes}
use Rattle.search.specs.Found.{symbol_at, wiped}
use Rattle.search.specs.Searches.{marks_in, done, filled_by, outcome, end, searched, searched_by, Looked, read_out, Tells}

ok_err : {A B : Type 0} (a : A) (b : B) → ◌≡◌ {A = Result A B} (Ok a) (Err b) → ⊥
ok_err a b e = true≢false (ap is_ok e)

-- an error handed on
pub err_is : {A E : Type 0} (r : Result A E) (e : E) → IsErrAnd r (λ y. y ≡ e) → r ≡ Err e
err_is (Ok a) e h = absurd h
err_is (Err x) e h = ap Err h

-- an answer that is not one leaves the table
kept_by : {S : Type 0} (o : Outcome S) (syms : List S) (e : Unfound) → Err e ≡ told o → filled_by o syms ≡ syms
kept_by (none p a) syms e h = refl
kept_by (one p a w) syms e h = absurd (ok_err _ _ (sym h))
kept_by (several p a f) syms e h = refl

-- an answer that is one fills it
answer_fills : {S : Type 0} (o : Option ℕ) (p a : ℕ) (fs : List ℕ) (w syms : List S) (r : Report) → Ok r ≡ told (answer_at o p a fs w) → filled_by (answer_at o p a fs w) syms ≡ w
answer_fills (Some q) p a fs w syms r h = absurd (ok_err _ _ h)
answer_fills None p a [] w syms r h = refl
answer_fills None p a (f ∷ fs) w syms r h = absurd (ok_err _ _ h)

-- a search that begins has a code as wide as the table is long
width_same : (k : Matrix) (n : ℕ) (rest : Option Unfound) → cond (not (eqb k.width n)) (Some (OtherWidth k.width)) rest ≡ None → k.width ≡ n
width_same k n rest e = go (eqb k.width n) refl e
  where
    go : (b : Bool) → eqb k.width n ≡ b → cond (not b) (Some (OtherWidth k.width)) rest ≡ None → k.width ≡ n
    go true q h = eqb-true k.width n q
    go false q h = absurd (let z : ◌≡◌ {A = ℕ} 0 1 = cc in omega arith)

module _ {S P : Type 0} (K : Kind S) (choice : Matrix → Choice P) (k : Matrix) (received : List Bool) (syms : List S) (p : P) (ws : List ℕ) (ss : List S) where
  -- refused, or no one codeword: all is as the search left it
  pub unfound_done : (e : Unfound) (p' : P) (ws' : List ℕ) (ss' : List S) → Looked K choice k received syms p ws ss p' ws' ss' (Err e)
      → done (Err e) syms p' ws' ss' ≡ searched K choice k received syms p ws ss
  unfound_done e p' ws' ss' l = λ i. record { answer = l.answer i; table = stays i; policy = l.policy i; words = l.words i; sides = l.sides i }
    where
      by : (o : Option Unfound) → Err e ≡ (searched_by K choice k received syms p ws ss o).answer → syms ≡ (searched_by K choice k received syms p ws ss o).table
      by (Some x) h = refl
      by None h = sym (kept_by (outcome K choice k received syms p) syms e h)

      stays : syms ≡ (searched K choice k received syms p ws ss).table
      stays = by (first_of (causes k (length syms) (length ws) (length ss))) l.answer

  -- with one codeword the places read out are the method's filling
  read_filled : (f : Found) (ss' : List S) → k.width ≡ length syms → k.width ≤ 512 → ((c : ℕ) → c < 512 → symbol_at K f ss' c ≡ (row_for K c (end K choice k received syms p).rows).right)
      → read_out K f received ss' syms ≡ filled K k.width (marks_in k received) syms (end K choice k received syms p).rows
  read_filled f ss' wide narrow h = ext_get_or K.zero _ _ (length_table (length syms) read ∙ sym (length_table k.width fill ∙ wide)) (λ c l.
      let lt : c < length syms = omega (arith, length_table (length syms) read) in
      let lw : c < k.width = omega (arith, wide) in
      get_or_table (length syms) read c K.zero lt
      ∙ ap₂ (λ b x. cond b (get_or syms c K.zero) x) (sym (get_or-take k.width received c false lw)) (h c (omega arith))
      ∙ sym (get_or_table k.width fill c K.zero lw))
    where
      read : ℕ → S
      read c = cond (has received c) (get_or syms c K.zero) (symbol_at K f ss' c)

      fill : ℕ → S
      fill c = cond (has (marks_in k received) c) (get_or syms c K.zero) (row_for K c (end K choice k received syms p).rows).right

  fills : (r : Report) → Ok r ≡ told (outcome K choice k received syms p)
      → filled_by (outcome K choice k received syms p) syms ≡ filled K k.width (marks_in k received) syms (end K choice k received syms p).rows
  unfolding method answer
  fills r h =
      answer_fills (lowest (clash K) (end K choice k received syms p).rows) (length (end K choice k received syms p).pivots) (end K choice k received syms p).additions
      (end K choice k received syms p).free (filled K k.width (marks_in k received) syms (end K choice k received syms p).rows) syms r h

  pub found_done : (f : Found) (p' : P) (ws' : List ℕ) (ss' ss'' : List S) (m : ℕ) → k.width ≤ 512 → length ss' ≡ length ss → m ≡ height k
      → Looked K choice k received syms p ws ss p' ws' ss' (Ok f) → ss'' ≡ wiped K.zero m ss'
      → done (Ok f.report) (read_out K f received ss' syms) p' ws' ss'' ≡ searched K choice k received syms p ws ss
  found_done f p' ws' ss' ss'' m narrow same rows l z = by (first_of (causes k (length syms) (length ws) (length ss))) refl l.answer l.policy l.words
    where
      by : (o : Option Unfound) → first_of (causes k (length syms) (length ws) (length ss)) ≡ o
          → Ok f.report ≡ (searched_by K choice k received syms p ws ss o).answer → p' ≡ (searched_by K choice k received syms p ws ss o).policy
          → ws' ≡ (searched_by K choice k received syms p ws ss o).words
          → done (Ok f.report) (read_out K f received ss' syms) p' ws' ss'' ≡ searched_by K choice k received syms p ws ss o
      by (Some x) e h a b = absurd (ok_err _ _ h)
      by None e h a b =
          let filled = read_filled f ss' (width_same k (length syms) _ e) narrow l.sides.0 ∙ sym (fills f.report h) in
          let zeros = z ∙ ap₂ (λ j xs. replicate j K.zero ++ xs) (omega arith) (ap (λ j. drop j ss') rows ∙ l.sides.1) in
          λ i. record { answer = h i; table = filled i; policy = a i; words = b i; sides = zeros i }

-- what an answer tells, through what the method's tells
module _ {S : Type 0} (K : Kind S) (k : Matrix) (got : List Bool) (syms : List S) where
  tells_of : (o : Outcome S) → Exactly (Agreeing K k got syms) o → (pivots_of o ≡ 0) ↔ No (Stopping k (has (missing got)))
      → Tells K k got syms (filled_by o syms) (told o)
  tells_of (none p a) e h = record { none_when = e.none_when; one_when = e.one_when; several_when = e.several_when; given = λ q. absurd (false≢true q); no_pivot_when = h }
  tells_of (one p a w) e h = record { none_when = e.none_when; one_when = e.one_when; several_when = e.several_when; given = λ q. e.filling p a w refl; no_pivot_when = h }
  tells_of (several p a f) e h = record { none_when = e.none_when; one_when = e.one_when; several_when = e.several_when; given = λ q. absurd (false≢true q); no_pivot_when = h }

pub searched_tells : {S P : Type 0} {K : Kind S} → Laws K → (choice : Matrix → Choice P) → ((k : Matrix) → Naming (choice k)) → (k : Matrix) → Lawful k
    → (received : List Bool) → k.width ≤ length received → (syms : List S) (p : P) (ws : List ℕ) (ss : List S) (r : Result Report Unfound) (syms' : List S) (p' : P) (ws' : List ℕ) (ss' : List S)
    → done r syms' p' ws' ss' ≡ searched K choice k received syms p ws ss → first_of (causes k (length syms) (length ws) (length ss)) ≡ None
    → Tells K k (marks_in k received) syms syms' r
searched_tells {S} {P} {K} L choice naming k ok received wide syms p ws ss r syms' p' ws' ss' e begins =
    let whole = e ∙ ap (searched_by K choice k received syms p ws ss) begins in
    let long = length-take-le k.width received wide in
    rw (ap (λ d. d.answer) whole, ap (λ d. d.table) whole)
    (tells_of K k (marks_in k received) syms (outcome K choice k received syms p)
    (tells_exactly L (choice k) (naming k) k ok (marks_in k received) long syms p) (pivots_tell L (choice k) (naming k) k ok (marks_in k received) long syms p))

-- What a whole script is answered.
--
--   next, ReadsOne, Reads    what the lines make of the part of a script before them
--   places_of, words_of, symbols_of, places_asked, words_asked, symbols_asked      the memory that calls ask for
--   rest_after, first_text, lines_text, left_text      the lines that answer, by the log of a session
--   ReadAll       the lines of a text are read
--   Performed, AnsweredIn    the lines of a script about one kind of symbols are answered: its calls are those of a session
--   AnsweredFor, Answered    what a script is answered: its calls are those of a session, in which every event was true when it came
use Rattle.std.specs.Prelude.{◌≡◌, ℕ, ◌+◌, ◌*◌, cond, List, [], ◌∷◌, ◌++◌, take, drop, codes, max, is_some, Some, None, MatchBool, Option}
use Rattle.std.specs.Option.{option_map}
use Rattle.symbols.specs.Kinds.{Kind}
use Rattle.symbols.specs.Bits.{bit_kind}
use Rattle.symbols.specs.Cells.{cell_kind}
use Rattle.symbols.specs.Pairs.{pair_kind}
use Rattle.symbols.specs.Words.{word_kind}
use Rattle.receiver.specs.Calls.{open_refusal}
use Rattle.script.specs.Lines.{not_understood}
use Rattle.script.specs.Words.{passed_over}
use Rattle.session.specs.Carrying.{Carriage, cells as carried_cells, no_cells}
use Rattle.session.specs.Obeying.{setting}
use Rattle.session.specs.Sessions.{Session}
use Rattle.session.specs.Sides.{Memory}
use Rattle.session.specs.declared.order.Call.{Call}
use Rattle.session.specs.declared.order.Entry.{Entry}
use Rattle.session.specs.declared.order.Order.{Order}
use Rattle.session.specs.declared.order.Order.TheVariants as order
use Rattle.session.specs.declared.whole.Left.{Left}
use Rattle.dialogue.specs.Beginnings.{Begun}
use Rattle.dialogue.specs.Lines.{Numbered, Cuts}
use Rattle.dialogue.specs.Sayings.{saying, said_by}
use Rattle.dialogue.specs.Scores.{Line, Line.told, Line.by_call, Line.by_grid, Part, say, taken, fresh}
use Rattle.dialogue.specs.Symbols.{Spelling, bits, words, cells, dated}
use Rattle.dialogue.specs.Tellings.{entry_text, grid_text}
use Rattle.dialogue.specs.declared.said.Said.{Said}
use Rattle.dialogue.specs.declared.said.SymbolName.{SymbolName}
use Rattle.dialogue.specs.declared.said.SymbolName.TheVariants as kinds

-- the part that is read, one line later
abbrev pub next : {S : Type 0} → Part S → Numbered → Option (Said S) → Part S
next x l None = say (not_understood l.number l.text) x
next x l (Some s) = taken s x

module _ {S : Type 0} (sp : Spelling S) where
  -- a line is passed over, or it is a call, or it is not understood
  abbrev pub ReadsOne : Part S → Numbered → Part S → Type 0
  ReadsOne x l y = MatchBool (passed_over l.text) (y ≡ x) ((o : Option (Said S)) × (option_map saying o ≡ said_by sp l.text) × (y ≡ next x l o))

  abbrev pub Reads : Part S → List Numbered → Part S → Type 0
  Reads x [] y = y ≡ x
  Reads x (l ∷ ls) y = (z : Part S) × ReadsOne x l z × Reads z ls y

-- the memory that calls ask for: a table for each granted open, and for solves as much as the greediest asks for
abbrev pub places_of : {S : Type 0} → Order S → ℕ
places_of (order.Open b s n) = cond (is_some (open_refusal b s n)) 0 n
places_of o = 0

abbrev pub words_of : {S : Type 0} → Order S → ℕ
words_of (order.Solve c p ws ss) = ws
words_of o = 0

abbrev pub symbols_of : {S : Type 0} → Order S → ℕ
symbols_of (order.Solve c p ws ss) = ss
symbols_of o = 0

abbrev pub places_asked : {S : Type 0} → List (Call S) → ℕ
places_asked [] = 0
places_asked (c ∷ cs) = places_of c.order + places_asked cs

abbrev pub words_asked : {S : Type 0} → List (Call S) → ℕ
words_asked [] = 0
words_asked (c ∷ cs) = max (words_of c.order) (words_asked cs)

abbrev pub symbols_asked : {S : Type 0} → List (Call S) → ℕ
symbols_asked [] = 0
symbols_asked (c ∷ cs) = max (symbols_of c.order) (symbols_asked cs)

-- what follows an answer in the log
abbrev pub rest_after : {S : Type 0} → Line → List (Entry S) → List (Entry S)
rest_after (told t) es = es
rest_after (by_call v) es = drop 1 es
rest_after (by_grid n) es = drop (n * 2 + 1) es

module _ {S : Type 0} (sp : Spelling S) where
  abbrev pub first_text : Line → List (Entry S) → List ℕ
  first_text (told t) es = t
  first_text (by_call v) [] = []
  first_text (by_call v) (e ∷ es) = entry_text sp v e
  first_text (by_grid n) es = grid_text sp (take (n * 2 + 1) es)

  abbrev pub lines_text : List Line → List (Entry S) → List ℕ
  lines_text [] es = []
  lines_text (l ∷ ls) es = first_text l es ++ (codes "\n" ++ lines_text ls (rest_after l es))

-- the permits that were left in a hand are closed at the end, first block 1's
abbrev pub left_text : Left → List ℕ
left_text left = cond left.first (codes "close granted\n") [] ++ cond left.second (codes "close granted\n") []

-- the lines of a text, behind so many others, are read: each is passed over, or a call, or not understood
pub record ReadAll {S : Type 0} (sp : Spelling S) (heard : List Line) (text : List ℕ) (before : ℕ) (score : Part S) : Type 0 where
  pub lines : List Numbered
  pub end : ℕ
  pub cuts : Cuts text before lines [] end
  pub reads : Reads sp (fresh heard) lines score

-- the calls that were read are those of a session with so much memory, and its log is told line by line
pub record Performed {S : Type 0} (K : Kind S) (c : Carriage S) (sp : Spelling S) (score : Part S) (room : ℕ) (memory : Memory) (answer : List ℕ) : Type 0 where
  pub log : List (Entry S)
  pub left : Left
  pub session : Session (setting K c score.codes memory) room score.calls log left
  pub told_as : answer ≡ lines_text sp score.answers log ++ left_text left

-- the lines of a script about symbols of one kind are answered
pub record AnsweredIn {S : Type 0} (K : Kind S) (c : Carriage S) (sp : Spelling S) (heard : List Line) (text : List ℕ) (before : ℕ) (answer : List ℕ) : Type 0 where
  pub score : Part S
  pub read : ReadAll sp heard text before score
  pub performed : Performed K c sp score (places_asked score.calls) (record { words = words_asked score.calls; symbols = symbols_asked score.calls }) answer

-- the answers of a script about the symbols of a name
abbrev pub AnsweredFor : SymbolName → List Line → List ℕ → ℕ → List ℕ → Type 0
AnsweredFor kinds.Bit heard text before answer = AnsweredIn bit_kind no_cells bits heard text before answer
AnsweredFor kinds.Word heard text before answer = AnsweredIn word_kind no_cells words heard text before answer
AnsweredFor kinds.Cell heard text before answer = AnsweredIn cell_kind carried_cells cells heard text before answer
AnsweredFor kinds.Dated heard text before answer = AnsweredIn (pair_kind cell_kind word_kind) no_cells dated heard text before answer

-- what a script is answered
pub record Answered (script answer : List ℕ) : Type 0 where
  pub name : SymbolName
  pub heard : List Line
  pub rest : List ℕ
  pub behind : ℕ
  pub begun : Begun script name heard rest behind
  pub answered : AnsweredFor name heard rest behind answer

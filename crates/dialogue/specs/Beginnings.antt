-- The first call of a script: it says which symbols the script is about, or they are cells.
--
--   unread, AllUnread        lines that are no call, and their answers
--   other_call    whether a call does not say which symbols the script is about
--   Begins        what a line is that comes before any call
--   Opens         what a script begins with, behind such lines
--   Begun         a script is read up to its first call, or behind it where that says which symbols it is about
use Rattle.std.specs.Prelude.{◌≡◌, ℕ, ◌+◌, Bool, true, false, cond, List, [], ◌∷◌, ◌++◌, length, codes, string_bytes, Some, None, MatchBool}
use Rattle.script.specs.Lines.{not_understood}
use Rattle.script.specs.Words.{passed_over}
use Rattle.symbols.specs.declared.kinds.Cell.{Cell}
use Rattle.dialogue.specs.Lines.{Numbered, Cut, Cuts}
use Rattle.dialogue.specs.Sayings.{Saying, said_by, Saying.say_symbols}
use Rattle.dialogue.specs.Scores.{Line, Line.told}
use Rattle.dialogue.specs.Symbols.{cells}
use Rattle.dialogue.specs.declared.beginning.FirstLine.{FirstLine}
use Rattle.dialogue.specs.declared.beginning.FirstLine.TheVariants.{PassedOver, NoCall, Symbols, OtherCall}
use Rattle.dialogue.specs.declared.said.SymbolName.{SymbolName}
use Rattle.dialogue.specs.declared.said.SymbolName.TheVariants as kinds

-- the answers to lines that are no call
abbrev pub unread : List Numbered → List Line
unread [] = []
unread (l ∷ ls) = cond (passed_over l.text) (unread ls) (told (not_understood l.number l.text) ∷ unread ls)

-- these lines are passed over, or are no call where symbols are cells
abbrev pub AllUnread : List Numbered → Type 0
AllUnread [] = Unit {0}
AllUnread (l ∷ ls) = MatchBool (passed_over l.text) (Unit {0}) (said_by cells l.text ≡ None) × AllUnread ls

-- a call that does not say which symbols the script is about
abbrev pub other_call : {S : Type 0} → Saying S → Bool
other_call (say_symbols k) = false
other_call s = true

-- what a line is that comes before any call, when symbols are cells
abbrev pub Begins : ℕ → List ℕ → FirstLine → Type 0
Begins k line PassedOver = passed_over line ≡ true
Begins k line (NoCall t) = (passed_over line ≡ false) × (said_by cells line ≡ None) × (string_bytes t ≡ not_understood k line)
Begins k line (Symbols n) = (passed_over line ≡ false) × (said_by cells line ≡ Some (say_symbols n))
Begins k line OtherCall = (passed_over line ≡ false) × ((said : Saying Cell) × (said_by cells line ≡ Some said) × (other_call said ≡ true))

-- what a script begins with, behind its first lines: nothing more; a call that says which symbols it is about; or another
pub data Opens (text : List ℕ) (before : ℕ) (name : SymbolName) (heard : List Line) (rest : List ℕ) (behind : ℕ) : Type 0 where
  with_nothing : length text ≡ 0 → name ≡ kinds.Cell → heard ≡ [] → rest ≡ text → behind ≡ before → Opens text before name heard rest behind
  with_symbols : (line : List ℕ) → Cut text line rest → passed_over line ≡ false → said_by cells line ≡ Some (say_symbols name) → heard ≡ told (codes "symbols granted") ∷ [] → behind ≡ before + 1 → Opens text before name heard rest behind
  with_another : (line next : List ℕ) → Cut text line next → passed_over line ≡ false → (said : Saying Cell) → said_by cells line ≡ Some said → other_call said ≡ true → name ≡ kinds.Cell → heard ≡ [] → rest ≡ text → behind ≡ before → Opens text before name heard rest behind

-- up to its first call, or behind it where that says which symbols it is about
pub record Begun (text : List ℕ) (name : SymbolName) (heard : List Line) (rest : List ℕ) (behind : ℕ) : Type 0 where
  pub lines : List Numbered
  pub middle : List ℕ
  pub before : ℕ
  pub first : List Line
  pub cuts : Cuts text 0 lines middle before
  pub unread_all : AllUnread lines
  pub opens : Opens middle before name first rest behind
  pub heard_as : heard ≡ unread lines ++ first

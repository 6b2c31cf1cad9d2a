-- What a line of a script says, where it is a call.
--
--   Saying        a call of the script, by its values
--   saying        what a call that the program read says
--   three, four   what words give together, none where one gives nothing
--   which_of, named_of, symbol_name         a block by its word, one that may be left out, and a kind of symbols
--   symbols_by, code_by, row_by, policy_by, memory_by, use_by, open_by, received, receive_by, stamped_by, packet_by, run_by,
--   show_by, close_by, renew_by, alone
--                 what the line behind a call's word says, none where it is not understood
--   apart         a call that wants neither a block nor a code
--   said_after    what the line behind a call's word says
--   said_verb, said_by          what a line says, none where it is not understood
use Rattle.std.specs.Prelude.{ℕ, cond, List, Some, None, vec_items, codes, Option}
use Rattle.std.specs.Option.{option_map}
use Rattle.std.specs.Str.{bytes_eq}
use Rattle.piles.specs.Policies.{policy_of}
use Rattle.piles.specs.Readings.{WrittenPile, pile_written, paired, pile_of}
use Rattle.piles.specs.declared.policy.PolicyName.{PolicyName}
use Rattle.script.specs.Calls.{Asked, asked, only, understood}
use Rattle.script.specs.Hex.{bytes_of}
use Rattle.script.specs.Numbers.{number_of}
use Rattle.script.specs.Words.{word, past, blank}
use Rattle.session.specs.declared.order.Which.{Which}
use Rattle.session.specs.declared.order.Which.TheVariants.{First, Second}
use Rattle.dialogue.specs.Symbols.{Spelling}
use Rattle.dialogue.specs.Verbs.{verb_of}
use Rattle.dialogue.specs.declared.said.Said.{Said}
use Rattle.dialogue.specs.declared.said.Said.TheVariants as said
use Rattle.dialogue.specs.declared.said.SymbolName.{SymbolName}
use Rattle.dialogue.specs.declared.said.SymbolName.TheVariants.{Bit, Word, Cell, Dated}
use Rattle.dialogue.specs.declared.verb.Verb.{Verb}
use Rattle.dialogue.specs.declared.verb.Verb.TheVariants as verb

pub data Saying (S : Type 0) : Type 0 where
  say_apart : Asked → Saying S
  say_symbols : SymbolName → Saying S
  say_code : WrittenPile → Saying S
  say_row : ℕ → Saying S
  say_policy : PolicyName → Saying S
  say_memory : ℕ → ℕ → Saying S
  say_use : Which → Saying S
  say_open : ℕ → ℕ → ℕ → Saying S
  say_receive : ℕ → ℕ → ℕ → S → Saying S
  say_packet : ℕ → List ℕ → Saying S
  say_run : ℕ → List ℕ → Saying S
  say_solve : Saying S
  say_show : ℕ → Option Which → Saying S
  say_close : Option Which → Saying S
  say_renew : ℕ → Saying S
  say_figure : Saying S
  say_grid : Saying S

abbrev pub saying : {S : Type 0} → Said S → Saying S
saying (said.Apart c) = say_apart (asked c)
saying (said.Symbols k) = say_symbols k
saying (said.Code p) = say_code (pile_written p)
saying (said.Row r) = say_row r
saying (said.Policy p) = say_policy p
saying (said.Memory ws ss) = say_memory ws ss
saying (said.Use w) = say_use w
saying (said.Open b s n) = say_open b s n
saying (said.Receive b s p y) = say_receive b s p y
saying (said.Packet s bs) = say_packet s (vec_items bs)
saying (said.Run s bs) = say_run s (vec_items bs)
saying said.Solve = say_solve
saying (said.Show p w) = say_show p w
saying (said.Close w) = say_close w
saying (said.Renew s) = say_renew s
saying said.Figure = say_figure
saying said.Grid = say_grid

abbrev pub three : {A B C D : Type 0} → (A → B → C → D) → Option A → Option B → Option C → Option D
three f None b c = None
three f (Some a) b c = paired (f a) b c

abbrev pub four : {A B C D E : Type 0} → (A → B → C → D → E) → Option A → Option B → Option C → Option D → Option E
four f None b c d = None
four f (Some a) b c d = three (f a) b c d

abbrev pub which_of : List ℕ → Option Which
which_of w = cond (bytes_eq w (codes "1")) (Some First) (cond (bytes_eq w (codes "2")) (Some Second) None)

-- [1|2]
abbrev pub named_of : List ℕ → Option (Option Which)
named_of line = cond (blank line) (Some None) (only 1 line (option_map Some (which_of (word 0 line))))

abbrev pub symbol_name : List ℕ → Option SymbolName
symbol_name w =
    cond (bytes_eq w (codes "bit")) (Some Bit)
    (cond (bytes_eq w (codes "word")) (Some Word)
    (cond (bytes_eq w (codes "cell")) (Some Cell)
    (cond (bytes_eq w (codes "dated")) (Some Dated) None)))

-- STAMP HEX
abbrev pub stamped_by : List ℕ → Option (ℕ × List ℕ)
stamped_by line = only 2 line (paired (λ s bs. (s, bs)) (number_of (word 0 line)) (bytes_of (word 1 line)))

module _ {S : Type 0} where
  abbrev pub symbols_by : List ℕ → Option (Saying S)
  symbols_by line = only 1 line (option_map say_symbols (symbol_name (word 0 line)))

  abbrev pub code_by : List ℕ → Option (Saying S)
  code_by line = option_map say_code (pile_of line)

  abbrev pub row_by : List ℕ → Option (Saying S)
  row_by line = option_map say_row (only 1 line (number_of (word 0 line)))

  abbrev pub policy_by : List ℕ → Option (Saying S)
  policy_by line = option_map say_policy (policy_of line)

  -- WORDS SYMBOLS
  abbrev pub memory_by : List ℕ → Option (Saying S)
  memory_by line = only 2 line (paired say_memory (number_of (word 0 line)) (number_of (word 1 line)))

  abbrev pub use_by : List ℕ → Option (Saying S)
  use_by line = only 1 line (option_map say_use (which_of (word 0 line)))

  -- BLOCK STAMP N
  abbrev pub open_by : List ℕ → Option (Saying S)
  open_by line = only 3 line (three say_open (number_of (word 0 line)) (number_of (word 1 line)) (number_of (word 2 line)))

  abbrev pub received : Option ℕ → Option ℕ → Option ℕ → Option S → Option (Saying S)
  received b s p y = four say_receive b s p y

  -- BLOCK STAMP NUMBER SYMBOL
  abbrev pub receive_by : Spelling S → List ℕ → Option (Saying S)
  receive_by sp line = only 4 line (received (number_of (word 0 line)) (number_of (word 1 line)) (number_of (word 2 line)) (sp.read (word 3 line)))

  abbrev pub packet_by : List ℕ → Option (Saying S)
  packet_by line = option_map (λ p. say_packet p.0 p.1) (stamped_by line)

  abbrev pub run_by : List ℕ → Option (Saying S)
  run_by line = option_map (λ p. say_run p.0 p.1) (stamped_by line)

  -- NUMBER [1|2]
  abbrev pub show_by : List ℕ → Option (Saying S)
  show_by line = paired say_show (number_of (word 0 line)) (named_of (past 1 line))

  abbrev pub close_by : List ℕ → Option (Saying S)
  close_by line = option_map say_close (named_of line)

  -- STAMP
  abbrev pub renew_by : List ℕ → Option (Saying S)
  renew_by line = only 1 line (option_map say_renew (number_of (word 0 line)))

  -- no words
  abbrev pub alone : List ℕ → Saying S → Option (Saying S)
  alone line s = cond (blank line) (Some s) None

  abbrev pub apart : List ℕ → Option (Saying S)
  apart line = option_map say_apart (understood line)

module _ {S : Type 0} (sp : Spelling S) where
  abbrev pub said_after : Verb → List ℕ → Option (Saying S)
  said_after verb.Symbols line = symbols_by line
  said_after verb.Code line = code_by line
  said_after verb.Row line = row_by line
  said_after verb.Policy line = policy_by line
  said_after verb.Memory line = memory_by line
  said_after verb.Use line = use_by line
  said_after verb.Open line = open_by line
  said_after verb.Receive line = receive_by sp line
  said_after verb.Packet line = packet_by line
  said_after verb.Run line = run_by line
  said_after verb.Solve line = alone line say_solve
  said_after verb.Show line = show_by line
  said_after verb.Close line = close_by line
  said_after verb.Renew line = renew_by line
  said_after verb.Figure line = alone line say_figure
  said_after verb.Grid line = alone line say_grid

  -- a figure with words behind it wants no block
  abbrev pub said_verb : Option Verb → List ℕ → Option (Saying S)
  said_verb None line = apart line
  said_verb (Some verb.Symbols) line = said_after verb.Symbols (past 1 line)
  said_verb (Some verb.Code) line = said_after verb.Code (past 1 line)
  said_verb (Some verb.Row) line = said_after verb.Row (past 1 line)
  said_verb (Some verb.Policy) line = said_after verb.Policy (past 1 line)
  said_verb (Some verb.Memory) line = said_after verb.Memory (past 1 line)
  said_verb (Some verb.Use) line = said_after verb.Use (past 1 line)
  said_verb (Some verb.Open) line = said_after verb.Open (past 1 line)
  said_verb (Some verb.Receive) line = said_after verb.Receive (past 1 line)
  said_verb (Some verb.Packet) line = said_after verb.Packet (past 1 line)
  said_verb (Some verb.Run) line = said_after verb.Run (past 1 line)
  said_verb (Some verb.Solve) line = said_after verb.Solve (past 1 line)
  said_verb (Some verb.Show) line = said_after verb.Show (past 1 line)
  said_verb (Some verb.Close) line = said_after verb.Close (past 1 line)
  said_verb (Some verb.Renew) line = said_after verb.Renew (past 1 line)
  said_verb (Some verb.Figure) line = cond (blank (past 1 line)) (Some say_figure) (apart line)
  said_verb (Some verb.Grid) line = said_after verb.Grid (past 1 line)

  abbrev pub said_by : List ℕ → Option (Saying S)
  said_by line = said_verb (verb_of (word 0 line)) line

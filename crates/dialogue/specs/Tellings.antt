-- The lines that tell the answers of a session's calls.
--
--   number_text   a refusal by its number and its values
--   granted       the answer of a call that gives nothing
--   layer_meaning, layer_name, packed_text, ran_text      of packets as bytes
--   report_text, solved_text                of a solve
--   shown_text    of a show
--   entry_rest, entry_text                  the line that tells the answer of a call of this word
--   bar           the reception figure as a bar of ten
--   place_rest, places_text, grid_text      a block for people: its figure, and each place
use Rattle.std.specs.Prelude.{ℕ, ◌+◌, ◌-◌, ◌/◌, Bool, true, false, List, [], ◌∷◌, ◌++◌, Some, Ok, Err, codes, decimal, replicate, Result}
use Rattle.packets.specs.Faults.{meaning as header_meaning}
use Rattle.refusals.specs.Refusals.{Refusal}
use Rattle.script.specs.Answers.{values_text}
use Rattle.search.specs.declared.answer.Report.{Report}
use Rattle.receiver.specs.Refusals.{meaning, unsolved}
use Rattle.receiver.specs.declared.fault.Fault.{Fault}
use Rattle.receiver.specs.declared.fault.Unsolved.{Unsolved}
use Rattle.receiver.specs.declared.fault.Unsolved.TheVariants.{Refused, NoCodeword, Several}
use Rattle.receiver.specs.declared.run.Layer.{Layer}
use Rattle.receiver.specs.declared.run.Layer.TheVariants.{Header, Block}
use Rattle.receiver.specs.declared.run.Stopped.{Stopped}
use Rattle.session.specs.declared.order.Entry.{Entry}
use Rattle.session.specs.declared.order.Entry.TheVariants as entry
use Rattle.dialogue.specs.Symbols.{Spelling}
use Rattle.dialogue.specs.Verbs.{verb_text}
use Rattle.dialogue.specs.declared.verb.Verb.{Verb}
use Rattle.dialogue.specs.declared.verb.Verb.TheVariants.{Grid}

-- a refusal by its number and its values
abbrev pub number_text : Refusal → List ℕ
number_text r = decimal r.number ++ values_text r.values

abbrev pub granted : Result (Unit {0}) Fault → List ℕ
granted (Ok u) = codes " granted"
granted (Err f) = codes " refused " ++ number_text (meaning f)

-- what a layer that refused a packet means
abbrev pub layer_meaning : Layer → Refusal
layer_meaning (Header h) = header_meaning h
layer_meaning (Block f) = meaning f

abbrev pub layer_name : Layer → List ℕ
layer_name (Header h) = codes "header"
layer_name (Block f) = codes "block"

abbrev pub packed_text : Result (Unit {0}) Layer → List ℕ
packed_text (Ok u) = codes " granted"
packed_text (Err l) = codes " refused " ++ number_text (layer_meaning l)

abbrev pub ran_text : Result ℕ Stopped → List ℕ
ran_text (Ok n) = codes " granted " ++ decimal n
ran_text (Err s) =
    codes " refused at " ++ (decimal s.at ++ (codes " " ++ (layer_name s.fault ++ (codes " " ++ number_text (layer_meaning s.fault)))))

abbrev pub report_text : Report → List ℕ
report_text r = codes " pivots " ++ (decimal r.pivots ++ (codes " additions " ++ decimal r.additions))

abbrev pub solved_text : Result Report Unsolved → List ℕ
solved_text (Ok r) = codes " granted" ++ report_text r
solved_text (Err (Refused f)) = codes " refused " ++ number_text (meaning f)
solved_text (Err (NoCodeword r)) = codes " refused " ++ (decimal (unsolved (NoCodeword r)).number ++ report_text r)
solved_text (Err (Several r k)) =
    codes " refused " ++ (decimal (unsolved (Several r k)).number ++ (report_text r ++ (codes " shortfall " ++ decimal k)))

-- ten characters, so many of them full
abbrev pub bar : ℕ → List ℕ
bar full = replicate full 35 ++ replicate (10 - full) 46

module _ {S : Type 0} (sp : Spelling S) where
  abbrev pub shown_text : Result S Fault → List ℕ
  shown_text (Ok y) = codes " granted " ++ sp.text y
  shown_text (Err f) = codes " refused " ++ number_text (meaning f)

  -- what is told behind the word of the call; of a mark alone, nothing
  abbrev pub entry_rest : Entry S → List ℕ
  entry_rest (entry.Opened r) = granted r
  entry_rest (entry.Received r) = granted r
  entry_rest (entry.Packed r) = packed_text r
  entry_rest (entry.Ran r) = ran_text r
  entry_rest (entry.Solved r) = solved_text r
  entry_rest (entry.Shown r) = shown_text r
  entry_rest (entry.Closed r) = granted r
  entry_rest (entry.Renewed r) = granted r
  entry_rest (entry.Figured p) = codes " " ++ decimal p
  entry_rest (entry.Marked m) = []
  entry_rest entry.NoBlock = codes " no block open"
  entry_rest entry.PermitInHand = codes " permit in hand"
  entry_rest entry.NoPermit = codes " no permit in hand"
  entry_rest entry.OtherBlocks = codes " permit of another block"
  entry_rest entry.NotCells = codes " not cells"
  entry_rest entry.NoCode = codes " no code in hand"
  entry_rest entry.NoMemory = codes " no memory"

  abbrev pub entry_text : Verb → Entry S → List ℕ
  entry_text v e = verb_text v ++ entry_rest e

  -- a place for people: with a permit in hand, what was shown of it
  abbrev pub place_rest : Bool → Entry S → List ℕ
  place_rest true (entry.Shown (Ok y)) = codes " heard " ++ sp.plain y
  place_rest false (entry.Shown (Ok y)) = codes " recovered " ++ sp.plain y
  place_rest true e = codes " received"
  place_rest false e = codes " missing"

  -- the places from p on, up to the first that the block has not: of each, whether it was received, and what was shown of it
  abbrev pub places_text : ℕ → List (Entry S) → List ℕ
  places_text p (entry.Marked (Some heard) ∷ (e ∷ es)) = codes "\n  " ++ (decimal p ++ (place_rest heard e ++ places_text (p + 1) es))
  places_text p es = []

  -- one line for the block, and one for each place
  abbrev pub grid_text : List (Entry S) → List ℕ
  grid_text (entry.Figured p ∷ es) = codes "grid " ++ (decimal p ++ (codes "% [" ++ (bar (p / 10) ++ (codes "]" ++ places_text 0 es))))
  grid_text (e ∷ es) = entry_text Grid e
  grid_text [] = []

-- The first words of a session's calls.
--
--   verb_text     the word of a call
--   verbs         all calls
--   verb_of       the call of a word, none where it is no call's
use Rattle.std.specs.Prelude.{ℕ, List, [], ◌∷◌, codes, Option}
use Rattle.std.specs.List.{find}
use Rattle.std.specs.Str.{bytes_eq}
use Rattle.dialogue.specs.declared.verb.Verb.{Verb}
use Rattle.dialogue.specs.declared.verb.Verb.TheVariants.{Symbols, Code, Row, Policy, Memory, Use, Open, Receive, Packet, Run, Solve, Show, Close, Renew, Figure, Grid}

abbrev pub verb_text : Verb → List ℕ
verb_text Symbols = codes "symbols"
verb_text Code = codes "code"
verb_text Row = codes "row"
verb_text Policy = codes "policy"
verb_text Memory = codes "memory"
verb_text Use = codes "use"
verb_text Open = codes "open"
verb_text Receive = codes "receive"
verb_text Packet = codes "packet"
verb_text Run = codes "run"
verb_text Solve = codes "solve"
verb_text Show = codes "show"
verb_text Close = codes "close"
verb_text Renew = codes "renew"
verb_text Figure = codes "figure"
verb_text Grid = codes "grid"

abbrev pub verbs : List Verb
verbs = Symbols ∷ Code ∷ Row ∷ Policy ∷ Memory ∷ Use ∷ Open ∷ Receive ∷ Packet ∷ Run ∷ Solve ∷ Show ∷ Close ∷ Renew ∷ Figure ∷ Grid ∷ []

abbrev pub verb_of : List ℕ → Option Verb
verb_of word = find (λ v. bytes_eq word (verb_text v)) verbs

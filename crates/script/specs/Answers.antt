-- What each call answers, and the line that tells it.
--
--   Said          an answer, by its values
--   said          what an answer of the program says
--   written, write_reply                    what writing a packet answers
--   reply         what a call answers
--   values_text, refused_text, pair_text, outcome      the parts of the line
--   text          the line that tells an answer
use Rattle.std.specs.Prelude.{ℕ, List, [], ◌∷◌, ◌++◌, Ok, Err, codes, decimal, Result}
use Rattle.packets.specs.Faults.{answered}
use Rattle.packets.specs.Figure.{percent}
use Rattle.packets.specs.Packets.{packet, read_header, write_packet}
use Rattle.refusals.specs.Refusals.{Refusal}
use Rattle.script.specs.Calls.{Asked, read, write, figure}
use Rattle.script.specs.Hex.{hex_of}
use Rattle.script.specs.declared.answer.Answer.{Answer}
use Rattle.script.specs.declared.answer.Answer.TheVariants.{Read, Write, Figure}

pub data Said : Type 0 where
  told_read : Result (ℕ × ℕ) Refusal → Said
  told_write : Result (List ℕ) Refusal → Said
  told_figure : ℕ → Said

abbrev pub said : Answer → Said
said (Read r) = told_read (answered r)
said (Write r) = told_write (answered r)
said (Figure f) = told_figure f

-- the packet, where its writing is granted
abbrev pub written : Result (Unit {0}) Refusal → List ℕ → Result (List ℕ) Refusal
written (Ok u) bytes = Ok bytes
written (Err f) bytes = Err f

-- a packet is written into a slice of that length
abbrev pub write_reply : ℕ → ℕ → List ℕ → ℕ → Result (List ℕ) Refusal
write_reply block number cell length = written (write_packet length block number) (packet block number cell)

abbrev pub reply : Asked → Said
reply (read bytes) = told_read (read_header bytes)
reply (write block number cell length) = told_write (write_reply block number cell length)
reply (figure received n) = told_figure (percent received n)

abbrev pub values_text : List ℕ → List ℕ
values_text [] = []
values_text (v ∷ vs) = codes " " ++ (decimal v ++ values_text vs)

abbrev pub refused_text : Refusal → List ℕ
refused_text f = codes " refused " ++ (decimal f.number ++ values_text f.values)

abbrev pub pair_text : ℕ × ℕ → List ℕ
pair_text p = decimal p.0 ++ (codes " " ++ decimal p.1)

abbrev pub outcome : {A : Type 0} → (A → List ℕ) → Result A Refusal → List ℕ
outcome show (Ok a) = codes " granted " ++ show a
outcome show (Err f) = refused_text f

abbrev pub text : Said → List ℕ
text (told_read r) = codes "read" ++ outcome pair_text r
text (told_write r) = codes "write" ++ outcome hex_of r
text (told_figure f) = codes "figure " ++ decimal f

-- What the lines of a script make of the calls of a session, and how each line is answered.
--
--   Line          how a line is answered: by a text known when it was read, by the answer to one call, or by those to a grid's
--   line          how the program answers a line
--   Part          the part of a script that is read so far: its codes, its calls, the answers to its lines, and what is in hand
--   part          that of the program
--   nothing_held, fresh      nothing is read yet
--   after         a part with more calls and answers, and other things in hand
--   say, ask      a line that is answered at once, and one by a call on the block in use
--   on            a call on one of the two blocks
--   with_code, with_policy, with_memory, with_used, with_places, holding      other things in hand
--   made          a code that is made is in hand from then on, a refused one leaves the one before
--   handed        a length of memory that is handed in, at most 1,000,000
--   rows_in, rows_of, needed_or, needed      the memory that a solve is handed: what was said, else what the code in hand needs
--   hand_of       whose permit a call is made under
--   places_by, places_on     the most places that a block on a side can have
--   widened_by, widened      the same after an open
--   marks         for each place from p on its mark and a show under the block's own permit
--   taken         what a line that says this makes of the part before it
use Rattle.std.specs.Prelude.{ℕ, zero, suc, ◌+◌, ◌*◌, List, [], ◌∷◌, ◌++◌, length, map, Some, None, Ok, Err, vec_items, string_bytes, codes, min, max, Option, Result, cond, is_some}
use Rattle.codes.specs.Matrix.{Matrix}
use Rattle.codes.specs.Refusals.{Cause}
use Rattle.codes.specs.Shapes.{shape_of}
use Rattle.piles.specs.Answers.{code_text, row_text}
use Rattle.piles.specs.Piles.{pile_code, shape_told}
use Rattle.piles.specs.declared.pile.Pile.{Pile}
use Rattle.piles.specs.declared.policy.PolicyName.{PolicyName}
use Rattle.piles.specs.declared.policy.PolicyName.TheVariants.{First as first_policy}
use Rattle.receiver.specs.Calls.{open_refusal}
use Rattle.script.specs.Answers.{reply, text}
use Rattle.script.specs.Calls.{asked}
use Rattle.session.specs.Sides.{pile_at}
use Rattle.session.specs.declared.order.Call.{Call}
use Rattle.session.specs.declared.order.Hand.{Hand}
use Rattle.session.specs.declared.order.Hand.TheVariants.{Own, Other}
use Rattle.session.specs.declared.order.Order.{Order}
use Rattle.session.specs.declared.order.Order.TheVariants as order
use Rattle.session.specs.declared.order.Which.{Which}
use Rattle.session.specs.declared.order.Which.TheVariants.{First, Second}
use Rattle.dialogue.specs.declared.said.Said.{Said}
use Rattle.dialogue.specs.declared.said.Said.TheVariants as said
use Rattle.dialogue.specs.declared.score.Answer.{Answer}
use Rattle.dialogue.specs.declared.score.Answer.TheVariants as answer
use Rattle.dialogue.specs.declared.score.Memory.{Memory}
use Rattle.dialogue.specs.declared.score.InHand.{InHand}
use Rattle.dialogue.specs.declared.score.Score.{Score}
use Rattle.dialogue.specs.declared.verb.Verb.{Verb}
use Rattle.dialogue.specs.declared.verb.Verb.TheVariants as verb

pub data Line : Type 0 where
  told : List ℕ → Line
  by_call : Verb → Line
  by_grid : (places : ℕ) → Line

abbrev pub line : Answer → Line
line (answer.Text t) = told (string_bytes t)
line (answer.Entry v) = by_call v
line (answer.Grid n) = by_grid n

pub record Part (S : Type 0) : Type 0 where
  pub codes : List Pile
  pub calls : List (Call S)
  pub answers : List Line
  pub held : InHand

abbrev pub part : {S : Type 0} → Score S → Part S
part x = record { codes = vec_items x.codes; calls = vec_items x.calls; answers = map line (vec_items x.answers); held = x.held }

abbrev pub nothing_held : InHand
nothing_held = record { code = None; policy = first_policy; memory = None; used = First; first_places = 0; second_places = 0 }

abbrev pub fresh : {S : Type 0} → List Line → Part S
fresh ls = record { codes = []; calls = []; answers = ls; held = nothing_held }

abbrev pub after : {S : Type 0} → Part S → InHand → List (Call S) → List Line → Part S
after x h cs ls = record { codes = x.codes; calls = x.calls ++ cs; answers = x.answers ++ ls; held = h }

abbrev pub with_code : Option ℕ → InHand → InHand
with_code c h = record { code = c; policy = h.policy; memory = h.memory; used = h.used; first_places = h.first_places; second_places = h.second_places }

abbrev pub with_policy : PolicyName → InHand → InHand
with_policy p h = record { code = h.code; policy = p; memory = h.memory; used = h.used; first_places = h.first_places; second_places = h.second_places }

abbrev pub with_memory : Option Memory → InHand → InHand
with_memory m h = record { code = h.code; policy = h.policy; memory = m; used = h.used; first_places = h.first_places; second_places = h.second_places }

abbrev pub with_used : Which → InHand → InHand
with_used w h = record { code = h.code; policy = h.policy; memory = h.memory; used = w; first_places = h.first_places; second_places = h.second_places }

abbrev pub with_places : (first second : ℕ) → InHand → InHand
with_places a b h = record { code = h.code; policy = h.policy; memory = h.memory; used = h.used; first_places = a; second_places = b }

-- a length of memory that is handed in
abbrev pub handed : ℕ → ℕ
handed n = min n 1000000

abbrev pub rows_in : Result Matrix Cause → ℕ
rows_in (Ok k) = (shape_of k).rows
rows_in (Err c) = 0

abbrev pub rows_of : Option Pile → ℕ
rows_of None = 0
rows_of (Some p) = rows_in (pile_code p)

abbrev pub needed_or : Option Memory → (rows : ℕ) → Memory
needed_or None m = record { words = m * 8; symbols = m }
needed_or (Some memory) m = memory

-- the memory that a solve is handed: what was said, else what the code in hand needs
abbrev pub needed : List Pile → InHand → Memory
needed ps h = needed_or h.memory (rows_of (pile_at ps h.code))

-- the permit of the block that is named, of the block in use where none is
abbrev pub hand_of : Which → Option Which → Hand
hand_of used None = Own
hand_of First (Some First) = Own
hand_of First (Some Second) = Other
hand_of Second (Some First) = Other
hand_of Second (Some Second) = Own

abbrev pub places_by : Which → InHand → ℕ
places_by First h = h.first_places
places_by Second h = h.second_places

abbrev pub places_on : InHand → ℕ
places_on h = places_by h.used h

abbrev pub widened_by : Which → ℕ → InHand → InHand
widened_by First n h = with_places (max h.first_places n) h.second_places h
widened_by Second n h = with_places h.first_places (max h.second_places n) h

-- only an open that is granted gives a block more places
abbrev pub widened : (number stamp places : ℕ) → InHand → InHand
widened b s n h = cond (is_some (open_refusal b s n)) h (widened_by h.used n h)

module _ {S : Type 0} where
  abbrev pub say : List ℕ → Part S → Part S
  say t x = after x x.held [] (told t ∷ [])

  abbrev pub on : Which → Order S → Call S
  on w o = record { block = w; order = o }

  abbrev pub ask : Verb → Order S → Part S → Part S
  ask v o x = after x x.held (on x.held.used o ∷ []) (by_call v ∷ [])

  abbrev pub holding : InHand → Part S → Part S
  holding h x = record { codes = x.codes; calls = x.calls; answers = x.answers; held = h }

  abbrev pub made : Pile → Result Matrix Cause → Part S → Part S
  made p (Ok k) x = record { codes = x.codes ++ (p ∷ []); calls = x.calls; answers = x.answers; held = with_code (Some (length x.codes)) x.held }
  made p (Err c) x = x

  -- from place p on, n of them
  abbrev pub marks : Which → (p n : ℕ) → List (Call S)
  marks w p zero = []
  marks w p (suc n) = on w (order.Mark p) ∷ (on w (order.Show p Own) ∷ marks w (p + 1) n)

  abbrev pub taken : Said S → Part S → Part S
  taken (said.Apart c) x = say (text (reply (asked c))) x
  taken (said.Symbols k) x = say (codes "symbols not at the start") x
  taken (said.Code p) x = say (code_text (shape_told (pile_code p))) (made p (pile_code p) x)
  taken (said.Row r) x = say (row_text r (pile_at x.codes x.held.code)) x
  taken (said.Policy p) x = say (codes "policy granted") (holding (with_policy p x.held) x)
  taken (said.Memory ws ss) x = say (codes "memory granted") (holding (with_memory (Some (record { words = handed ws; symbols = handed ss })) x.held) x)
  taken (said.Use w) x = say (codes "use granted") (holding (with_used w x.held) x)
  taken (said.Open b s n) x = ask verb.Open (order.Open b s n) (holding (widened b s n x.held) x)
  taken (said.Receive b s p y) x = ask verb.Receive (order.Receive b s p y) x
  taken (said.Packet s bs) x = ask verb.Packet (order.Packet s bs) x
  taken (said.Run s bs) x = ask verb.Run (order.Run s bs) x
  taken said.Solve x = ask verb.Solve (order.Solve x.held.code x.held.policy (needed x.codes x.held).words (needed x.codes x.held).symbols) x
  taken (said.Show p w) x = ask verb.Show (order.Show p (hand_of x.held.used w)) x
  taken (said.Close w) x = ask verb.Close (order.Close (hand_of x.held.used w)) x
  taken (said.Renew s) x = ask verb.Renew (order.Renew s) x
  taken said.Figure x = ask verb.Figure order.Figure x
  taken said.Grid x =
      after x x.held (on x.held.used order.Figure ∷ marks x.held.used 0 (places_on x.held)) (by_grid (places_on x.held) ∷ [])

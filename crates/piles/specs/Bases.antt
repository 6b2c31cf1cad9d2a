-- The codes at the bottom of a pile: which base gives which code.
--
--   granted        the code, where its making is granted, and else the cause
--   base_code      the code that a base gives, or why it gives none
--   base_matrix    what the code at the bottom of a pile means
--   base_lawful    it keeps the rules of every code (a lemma)
--   base_told      what a making tells: the code's matrix, or the cause
use Rattle.std.specs.Prelude.{Ok, Err, vec_items, Result}
use Rattle.codes.specs.Listings.{listed_matrix}
use Rattle.codes.specs.Matrix.{Matrix, Lawful}
use Rattle.codes.specs.RecordLaws.{listed_lawful}
use Rattle.codes.specs.Records.{listed, judged_records}
use Rattle.codes.specs.Refusals.{Cause, meaning}
use Rattle.codes.specs.declared.refusal.Refusal.{Refusal}
use Rattle.quasi_cyclic.specs.Circulants.{circulant_matrix}
use Rattle.quasi_cyclic.specs.Entries.{quasi_cyclic, judged_entries}
use Rattle.quasi_cyclic.specs.EntryLaws.{circulant_lawful}
use Rattle.piles.specs.declared.base.Base.{Base}
use Rattle.piles.specs.declared.base.Base.TheVariants.{Listed as a_list, Circulant as a_circulant}
use Rattle.piles.specs.declared.code.BaseCode.{BaseCode}
use Rattle.piles.specs.declared.code.BaseCode.TheVariants.{Listed as of_list, Circulant as of_circulant}

abbrev pub granted : Result (Unit {0}) Cause → Matrix → Result Matrix Cause
granted (Ok u) k = Ok k
granted (Err c) k = Err c

abbrev pub base_code : Base → Result Matrix Cause
base_code (a_list m n records) = granted (judged_records m n (vec_items records)) (listed m n (vec_items records))
base_code (a_circulant s entries) = granted (judged_entries s.a s.b s.z (vec_items entries)) (quasi_cyclic s.a s.b s.z (vec_items entries))

abbrev pub base_matrix : BaseCode → Matrix
base_matrix (of_list l) = listed_matrix l
base_matrix (of_circulant q) = circulant_matrix q

pub base_lawful : (k : BaseCode) → Lawful (base_matrix k)
base_lawful (of_list l) = listed_lawful l.m l.n l.records.now l.sized l.rising l.few
base_lawful (of_circulant q) = circulant_lawful q.squares.a q.squares.b q.squares.z q.ones q.entries.now q.sized q.counted q.few

abbrev pub base_told : Result BaseCode Refusal → Result Matrix Cause
base_told (Ok k) = Ok (base_matrix k)
base_told (Err e) = Err (meaning e)

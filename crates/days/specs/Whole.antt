-- A whole day: when it is begun, and what its log then says.
--
--   Day           refused, by the log's length first and then as the open is, nothing is entered; begun, the day's orders and log are true from its open on,
--                 and each solve's entry is what the method answers
use Rattle.std.specs.Prelude.{◌≡◌, ℕ, List, [], length, Some, None, Ok, Err, Result, ◌≢◌}
use Rattle.symbols.specs.Kinds.{Kind}
use Rattle.codes.specs.Matrix.{Matrix}
use Rattle.method.specs.Method.{Choice}
use Rattle.receiver.specs.Calls.{open_refusal}
use Rattle.receiver.specs.Blocks.{opened}
use Rattle.receiver.specs.Stands.{opening}
use Rattle.days.specs.declared.whole.Unbegun.{Unbegun}
use Rattle.days.specs.declared.whole.Unbegun.TheVariants.{Refused, LogLength}
use Rattle.days.specs.declared.order.Order.{Order}
use Rattle.days.specs.declared.order.Entry.{Entry}
use Rattle.days.specs.Days.{now_of, day_on, AllAnswer, DayTrue}

abbrev pub Day : {S P : Type 0} → Kind S → (Matrix → Choice P) → Matrix → (words symbols number stamp : ℕ) → List S → P → List (Order S) → List (Entry S) → List (Entry S) → Result (Unit {0}) Unbegun → Type 0
Day K choice k ws ss b s table p orders log log' (Ok u) =
    (open_refusal b s (length table) ≡ None)
    × DayTrue K (opening b s (length table)) (day_on K choice k ws ss (Some (now_of (opened K b s table) p None [])) orders log')
    × AllAnswer K choice k ws ss (Some (now_of (opened K b s table) p None [])) orders log'
Day K choice k ws ss b s table p orders log log' (Err (Refused f)) = (log' ≡ log) × (length log ≡ length orders) × (open_refusal b s (length table) ≡ Some f)
Day K choice k ws ss b s table p orders log log' (Err (LogLength n)) = (log' ≡ log) × (n ≡ length log) × (length log ≢ length orders)

-- What the two passes of reading answer.
use Rattle.std.specs.Prelude.{◌≡◌, ℕ, cond, not, ◌&&◌, List, ℤ, Ok, Err, Result, ◌==◌, nat_le, nat_lt}
use Rattle.kinds.specs.Arithmetic.{Arithmetic}
use Rattle.order.specs.declared.event_order.Misordered.{Misordered}
use Rattle.order.specs.Orderings.{arranged}
use Rattle.net.specs.Limits.{most_events, cells_needed, most_size}
use Rattle.net.specs.Refusals.{Reason, by}
use Rattle.net.specs.State.{State, Outcome, lack}
use Rattle.sheet.specs.declared.fault.RecordFault.{RecordFault}
use Rattle.sheet.specs.declared.fault.SheetFault.{SheetFault}
use Rattle.sheet.specs.Records.{Coding, Asked}
use Rattle.sheet.specs.Faults.{Fault}
use Rattle.sheet.specs.Sheets.{entries_of, calls_of, run}
use Rattle.sheet.specs.Codes.{Full, Amounts}
use Rattle.sheet.specs.Told.{record_fault, fault_of}

-- the bounds of a sheet that is accepted are amounts
abbrev pub IfAmounts : Arithmetic → Result (Unit {0}) SheetFault → List Asked → Type 0
IfAmounts A (Ok x) calls = Amounts A calls
IfAmounts A (Err fault) calls = Unit {0}

-- a sheet that is accepted counts as its calls in order, each of them accepted
abbrev pub AsCalls : Result (Unit {0}) SheetFault → Result State Reason → State → Type 0
AsCalls (Ok x) came after = came ≡ Ok after
AsCalls (Err fault) came after = Unit {0}

-- what each call answers, by the number of events or of cells alone
abbrev pub may_begin : (cells n : ℕ) → Result (Unit {0}) Reason
may_begin cells n =
    cond (nat_lt 0 n && nat_le n most_events)
    (cond (nat_le (cells_needed n) cells) (Ok tt) (Err (by 2)))
    (Err (by 1))

abbrev pub may_require : Arithmetic → (n i j : ℕ) → List ℤ → Result (Unit {0}) Reason
may_require A n i j w =
    cond (nat_lt i n && nat_lt j n)
    (cond (not (i == j)) (cond (nat_le (A.size w) most_size) (Ok tt) (Err (by 11))) (Err (by 4)))
    (Err (by 3))

abbrev pub unless_lacking : Result (List ℕ) Misordered → Result (Unit {0}) Reason
unless_lacking (Ok list) = Ok tt
unless_lacking (Err why) = Err (by (lack why))

abbrev pub may_arrange : (n : ℕ) → List ℕ → Result (Unit {0}) Reason
may_arrange n list = unless_lacking (arranged n list)

-- the outcome of a call is this answer, and a state of which this holds
pub record Performed (o : Outcome) (answer : Result (Unit {0}) Reason) (P : State → Type 0) : Type 0 where
  pub answers : o.answer ≡ answer
  pub leaves : P o.after

-- it was foreseen: its answer, and the number of events after it
abbrev pub Foreseen : Outcome → Result (Unit {0}) Reason → ℕ → Type 0
Foreseen o answer events = Performed o answer (λ s. s.events ≡ events)

-- a record came to a state of which this holds, or stopped at this fault
abbrev pub Entered : Result State Fault → ℕ → Result (Unit {0}) RecordFault → (State → Type 0) → Type 0
Entered came at (Ok x) P = (after : State) × (came ≡ Ok after) × P after
Entered came at (Err fault) P = came ≡ Err (record_fault fault at)

-- all records of a sheet came to this state: it has events and no bound in force that its bytes do not name, and the sheet's bounds are amounts
pub record Accepted (K : Coding) (cells : ℕ) (sheet : List ℕ) (s : State) (P : State → Type 0) (after : State) : Type 0 where
  pub came : run K.arithmetic cells (entries_of K sheet) s ≡ Ok after
  pub shown : P after
  pub full : Full K after
  pub amounts : Amounts K.arithmetic (calls_of K sheet)

-- all records of a sheet came to a state of which this holds, or stopped at this fault
abbrev pub Taken : Coding → (cells : ℕ) → List ℕ → State → Result (Unit {0}) SheetFault → (State → Type 0) → Type 0
Taken K cells sheet s (Ok x) P = (after : State) × Accepted K cells sheet s P after
Taken K cells sheet s (Err fault) P = run K.arithmetic cells (entries_of K sheet) s ≡ Err (fault_of fault)

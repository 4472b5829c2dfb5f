-- What reading a sheet comes to: one answer for every string of bytes, and the state of the net after it.
use Rattle.std.specs.Prelude.{ℕ, zero, suc, cond, List, [], ◌∷◌, length, Ok, Err, Result, ◌==◌, nat_lt, slice_index}
use Rattle.kinds.specs.Arithmetic.{Arithmetic}
use Rattle.net.specs.Refusals.{Reason}
use Rattle.net.specs.State.{State, Outcome, begun, required, arranged}
use Rattle.sheet.specs.Records.{Coding, Asked, begin, require, arrange, start, whole, body_at, after_record, asked}
use Rattle.sheet.specs.Faults.{Fault, in_bytes, in_records, in_net}

-- what stands at an offset of a sheet
pub data Next : Type 0 where
  ended : Next
  -- a record: its offset, its body, and the offset after it
  found : ℕ → List ℕ → ℕ → Next
  faulty : Fault → Next

unfoldable pub next_at : List ℕ → ℕ → Next
next_at sheet at =
    cond (nat_lt at (length sheet))
    (cond (whole sheet at) (found at (body_at sheet at) (after_record sheet at)) (faulty (in_bytes 22 at)))
    (cond (at == start) (faulty (in_records 24 at)) ended)

-- a record as it is come to in a sheet
pub data Entry : Type 0 where
  -- at an offset, it asks something of the net
  asks : ℕ → Asked → Entry
  wrong : Fault → Entry

-- the record at an offset, by what it asks
abbrev pub entry : ℕ → Result Asked ℕ → Entry
entry at (Ok call) = asks at call
entry at (Err number) = wrong (in_records number at)

-- the records from an offset on, at most `most` of them, up to a fault in the bytes
abbrev pub listed : Coding → Next → (ℕ → List Entry) → List Entry
listed K ended more = []
listed K (found at body next) more = entry at (asked K at body) ∷ more next
listed K (faulty fault) more = wrong fault ∷ []

unfoldable pub entries : Coding → List ℕ → (most at : ℕ) → List Entry
entries K sheet zero at = []
entries K sheet (suc most) at = listed K (next_at sheet at) (entries K sheet most)

-- the records from an offset on: a sheet has fewer than it has bytes
abbrev pub entries_from : Coding → List ℕ → ℕ → List Entry
entries_from K sheet at = entries K sheet (length sheet) at

-- all records of a sheet
abbrev pub entries_of : Coding → List ℕ → List Entry
entries_of K sheet = cond (slice_index sheet 0 == 1) (entries_from K sheet start) (wrong (in_bytes 21 0) ∷ [])

-- what the records ask, in order
abbrev pub calls_in : List Entry → List Asked
calls_in [] = []
calls_in (asks at call ∷ more) = call ∷ calls_in more
calls_in (wrong fault ∷ more) = calls_in more

-- the calls that a sheet comes to
abbrev pub calls_of : Coding → List ℕ → List Asked
calls_of K sheet = calls_in (entries_of K sheet)

-- what a net over that many cells makes of a call
abbrev pub performed : Arithmetic → (cells : ℕ) → Asked → State → Outcome
performed A cells (begin n) s = begun cells n s
performed A cells (require i j w) s = required A i j w s
performed A cells (arrange list) s = arranged list s

-- the state after a call, or its refusal
abbrev pub after_answer : Result (Unit {0}) Reason → State → Result State Reason
after_answer (Ok x) s = Ok s
after_answer (Err why) s = Err why

abbrev pub after_call : Outcome → Result State Reason
after_call o = after_answer o.answer o.after

-- on with what follows, unless there is a fault
abbrev pub then : {E : Type 0} → Result State E → (State → Result State E) → Result State E
then (Ok s) further = further s
then (Err e) further = Err e

-- the refusal is carried inside a fault with the record's offset
abbrev pub located : ℕ → Result State Reason → Result State Fault
located at (Ok s) = Ok s
located at (Err why) = Err (in_net why at)

-- the state after a record, or its fault
abbrev pub entered : Arithmetic → (cells : ℕ) → Entry → State → Result State Fault
entered A cells (asks at call) s = located at (after_call (performed A cells call s))
entered A cells (wrong fault) s = Err fault

-- the state after all records, or the first fault
unfoldable pub run : Arithmetic → (cells : ℕ) → List Entry → State → Result State Fault
run A cells [] s = Ok s
run A cells (first ∷ more) s = then (entered A cells first s) (run A cells more)

-- the state after calls, each accepted, or the first refusal
unfoldable pub performed_all : Arithmetic → (cells : ℕ) → List Asked → State → Result State Reason
performed_all A cells [] s = Ok s
performed_all A cells (call ∷ more) s = then (after_call (performed A cells call s)) (performed_all A cells more)

-- what a read answers, and the state after it: a refusal alters nothing
pub record Reading : Type 0 where
  pub answer : Result (Unit {0}) Fault
  pub after : State

abbrev pub reading : Result (Unit {0}) Fault → State → Reading
reading answer after = record { answer = answer; after = after }

abbrev pub concluded : State → Result State Fault → Reading
concluded s (Ok t) = reading (Ok tt) t
concluded s (Err fault) = reading (Err fault) s

-- read a sheet into a net over that many cells
abbrev pub read_sheet : Coding → (cells : ℕ) → List ℕ → State → Reading
read_sheet K cells sheet s = concluded s (run K.arithmetic cells (entries_of K sheet) s)

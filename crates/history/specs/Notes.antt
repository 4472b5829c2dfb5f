-- What each call answers, with its reason, and what it leaves of the place that is lent to the calls.
use Rattle.std.specs.Prelude.{◌≡◌, ℕ, ◌≤◌, ◌≢◌, List, [], ◌∷◌, ◌++◌, map, reverse, length, drop, Ok, Err, Result}
use Rattle.kinds.specs.Arithmetic.{Arithmetic}
use Rattle.walks.specs.Walks.{Loop}
use Rattle.net.specs.Refusals.{Reason, by}
use Rattle.sheet.specs.Faults.{Fault, in_net}
use Rattle.sheet.specs.Records.{Coding, Asked}
use Rattle.sheet.specs.Sheets.{Entry, entries_of}
use Rattle.sheet.specs.Sheets.Entry.{asks, wrong}
use Rattle.history.specs.Deeds.{Deed, Action, Answer, accepted, refused}
use Rattle.history.specs.Deeds.Deed.{close}
use Rattle.history.specs.Deeds.Action.{does, reads}
use Rattle.history.specs.History.{events, InForce, First, needs, Step, noted}
use Rattle.history.specs.Standing.{contradiction}
use Rattle.history.specs.SheetCalls.{deed_of, sheet_of}

-- why a call is refused: the net's reason, or the fault of the sheet that it reads
pub data Why : Type 0 where
  of_call : Reason → Why
  of_sheet : Fault → Why

abbrev pub number_of : Why → ℕ
number_of (of_call why) = why.number
number_of (of_sheet fault) = fault.number

-- how a call ends, with the reason
abbrev pub Note : Type 0
Note = Result (Unit {0}) Why

-- the same by the number alone
abbrev pub in_short : Note → Answer
in_short (Ok x) = accepted
in_short (Err why) = refused (number_of why)

-- an answer of the net
abbrev pub call_note : {T : Type 0} → Result T Reason → Note
call_note (Ok x) = Ok tt
call_note (Err why) = Err (of_call why)

module _ (A : Arithmetic) (cells : ℕ) where
  -- the first fault of a sheet's records, after these calls: the net's refusal is carried with its record's offset
  pub data FirstFault : List Deed → List Entry → Fault → Type 0 where
    later : {past : List Deed} {at : ℕ} {asked : Asked} {entries : List Entry} {fault : Fault} → First (needs A cells past (deed_of asked)) accepted → FirstFault (deed_of asked ∷ past) entries fault → FirstFault past (asks at asked ∷ entries) fault
    in_call : {past : List Deed} {at : ℕ} {asked : Asked} {entries : List Entry} {number : ℕ} → First (needs A cells past (deed_of asked)) (refused number) → FirstFault past (asks at asked ∷ entries) (in_net (by number) at)
    in_sheet : {past : List Deed} {entries : List Entry} {fault : Fault} → FirstFault past (wrong fault ∷ entries) fault

module _ (K : Coding) (cells : ℕ) where
  -- the note of a call, and the place before and after it: only a close that finds a contradiction writes there. It tells
  -- how many events a loop of bounds in force has, under zero in sum, that names no event twice, and shows them first.
  pub data Noting (past : List Deed) (before : List ℕ) : Action → Note → List ℕ → Type 0 where
    accepts : {c : Action} → Noting past before c (Ok tt) before
    refuses : {d : Deed} {number : ℕ} → number ≢ 16 → Noting past before (does d) (Err (of_call (by number))) before
    contradicts : {bytes : ℕ} {loop after : List ℕ} → Loop K.arithmetic (InForce K.arithmetic past) loop → length loop ≤ events past → after ≡ loop ++ drop (length loop) before → Noting past before (does (close bytes)) (Err (of_call (contradiction (length loop)))) after
    faults : {bytes : List ℕ} {fault : Fault} → FirstFault K.arithmetic cells past (entries_of K bytes) fault → Noting past before (reads bytes) (Err (of_sheet fault)) before

  -- the calls made on a net from its making on, the note of each, and the past, all with the newest first; and the place
  -- that was lent to them, after the last
  pub data Course (lent : List ℕ) : List Action → List Note → List Deed → List ℕ → Type 0 where
    start : Course lent [] [] [] lent
    next : {calls : List Action} {notes : List Note} {past past_after : List Deed} {before after : List ℕ} {c : Action} {note : Note} → Course lent calls notes past before → Step K.arithmetic (sheet_of K) cells past c (in_short note) past_after → Noting past before c note after → Course lent (c ∷ calls) (note ∷ notes) past_after after

-- these actions on a net just made, and then a close that is given the whole place, as they are noted in slots
pub record Notes {T : Type 0} (K : Coding) (cells : ℕ) (actions : List Action) (note_of : T → Note) (slots slots_after : List T) (place_before place : List ℕ) (closing : Note) : Type 0 where
  -- what was noted, the newest first, and the accepted calls
  pub noted_down : List T
  pub past : List Deed
  pub course : Course K cells place_before (does (close (length place)) ∷ reverse actions) (closing ∷ map note_of noted_down) past place
  -- it stands in the slots in order, and slots past it are as they were
  pub told : slots_after ≡ noted (reverse noted_down) slots
  -- a note leaves nothing of an answer open
  pub whole : (x y : T) → note_of x ≡ note_of y → x ≡ y

-- The code's calls and answers, in the words of the law.
use Rattle.std.specs.Prelude.{ℕ, min, List, map, ℤ, Ok, Err, Result}
use Rattle.net.specs.Refusals.{reason, answered}
use Rattle.net.specs.Told.{amounts_told}
use Rattle.net.specs.Asking.{ends_told}
use Rattle.sheet.specs.Told.{fault_of}
use Rattle.history.specs.declared.call.Call.{Call}
use Rattle.history.specs.declared.call.Call.TheVariants.{Begin, Read, Require, Withdraw, Arrange, Rank, Close}
use Rattle.history.specs.declared.rejection.Rejection.{Rejection}
use Rattle.history.specs.declared.rejection.Rejection.TheVariants.{Call as of_net, Sheet}
use Rattle.history.specs.declared.call.Asked as code
use Rattle.history.specs.declared.call.Report as reports
use Rattle.history.specs.Deeds.{Action, Answer}
use Rattle.history.specs.Deeds.Deed.{begin, require, withdraw, arrange, rank, close}
use Rattle.history.specs.Deeds.Action.{does, reads}
use Rattle.history.specs.Notes.{Why, of_call, of_sheet, Note, in_short}
use Rattle.history.specs.Law.{Asked, Report}

-- a call as an action; a close has of a place of `room` bytes as many as it asks for
abbrev pub action : {K : Type 0} → (K → List ℤ) → (room : ℕ) → Call K → Action
action amount room (Begin n) = does (begin n)
action amount room (Read bytes) = reads bytes.now
action amount room (Require i j bound) = does (require i j (amount bound))
action amount room (Withdraw i j) = does (withdraw i j)
action amount room (Arrange list) = does (arrange list.now)
action amount room Rank = does rank
action amount room (Close k) = does (close (min k room))

-- the calls of a list as actions
abbrev pub actions : {K : Type 0} → (K → List ℤ) → (room : ℕ) → List (Call K) → List Action
actions amount room calls = map (action amount room) calls

-- why a call was refused
abbrev pub why_of : Rejection → Why
why_of (of_net why) = of_call (reason why)
why_of (Sheet fault) = of_sheet (fault_of fault)

-- an answer, with its reason
abbrev pub note_of : Result (Unit {0}) Rejection → Note
note_of (Ok x) = Ok tt
note_of (Err why) = Err (why_of why)

-- an answer, by its number alone
abbrev pub answer_of : Result (Unit {0}) Rejection → Answer
answer_of r = in_short (note_of r)

-- answers in amounts
abbrev pub asked_told : {K : Type 0} → (K → List ℤ) → code.Asked K → Asked
asked_told amount asked = record { is_closed = asked.closed; distance = amounts_told amount (answered asked.distance); window = ends_told amount (answered asked.window) }

-- the report in amounts
abbrev pub reported : {K : Type 0} → (K → List ℤ) → reports.Report K → Report
reported amount r = record { before = asked_told amount r.before; closing = answered r.closing; after = asked_told amount r.after }

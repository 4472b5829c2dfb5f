-- A note tells the whole answer: other answers have other notes.
use Rattle.std.proofs.Common.{◌≡◌, ℕ, cond, eqb, List, [], ◌∷◌, Some, None, Ok, Err, Option, Result, sym, refl, ap, ◌∙◌}
use Rattle.net.specs.declared.refusal.Refusal.{Refusal}
use Rattle.net.specs.declared.refusal.Refusal.TheVariants.{EventsOutOfRange, TooFewCells, NoSuchEvent, SameEvent, PlaceTooShort, NotClosed, TooLarge, NothingToWithdraw, WrongCount, OutsideNet, NamedTwice, Contradiction}
use Rattle.net.specs.Refusals.{Reason, reason}
use Rattle.sheet.specs.declared.fault.RecordFault.TheVariants.{Malformed, Misplaced, OtherKind, Refused}
use Rattle.sheet.specs.declared.fault.SheetFault.{SheetFault}
use Rattle.sheet.specs.declared.fault.SheetFault.TheVariants.{Version, Cut, AtRecord}
use Rattle.sheet.specs.Faults.{Fault}
use Rattle.sheet.specs.Told.{fault_of}
use Rattle.history.specs.declared.rejection.Rejection.{Rejection}
use Rattle.history.specs.declared.rejection.Rejection.TheVariants.{Call, Sheet}
use Rattle.history.specs.Notes.{of_call, of_sheet, Note}
use Rattle.history.specs.Told.{note_of}

abbrev first_of : List ℕ → ℕ
first_of [] = 0
first_of (m ∷ more) = m

-- the refusal with that reason
abbrev refusal : Reason → Refusal
refusal why =
    cond (eqb why.number 1) EventsOutOfRange
    (cond (eqb why.number 2) TooFewCells
    (cond (eqb why.number 3) NoSuchEvent
    (cond (eqb why.number 4) SameEvent
    (cond (eqb why.number 5) PlaceTooShort
    (cond (eqb why.number 6) NotClosed
    (cond (eqb why.number 11) TooLarge
    (cond (eqb why.number 12) NothingToWithdraw
    (cond (eqb why.number 13) WrongCount
    (cond (eqb why.number 14) OutsideNet
    (cond (eqb why.number 15) NamedTwice (Contradiction (first_of why.values))))))))))))

refusal_back : (e : Refusal) → refusal (reason e) ≡ e
refusal_back EventsOutOfRange = refl
refusal_back TooFewCells = refl
refusal_back NoSuchEvent = refl
refusal_back SameEvent = refl
refusal_back PlaceTooShort = refl
refusal_back NotClosed = refl
refusal_back TooLarge = refl
refusal_back NothingToWithdraw = refl
refusal_back WrongCount = refl
refusal_back OutsideNet = refl
refusal_back NamedTwice = refl
refusal_back (Contradiction m) = refl

-- the fault of a sheet with that number, at that offset, with that refusal
abbrev fault : (number offset : ℕ) → Option Reason → SheetFault
fault number offset (Some why) = AtRecord offset (Refused (refusal why))
fault number offset None =
    cond (eqb number 21) Version
    (cond (eqb number 22) (Cut offset)
    (AtRecord offset (cond (eqb number 23) Malformed (cond (eqb number 24) Misplaced OtherKind))))

abbrev told_fault : Fault → SheetFault
told_fault f = fault f.number f.offset f.carried

fault_back : (e : SheetFault) → told_fault (fault_of e) ≡ e
fault_back Version = refl
fault_back (Cut at) = refl
fault_back (AtRecord at Malformed) = refl
fault_back (AtRecord at Misplaced) = refl
fault_back (AtRecord at OtherKind) = refl
fault_back (AtRecord at (Refused why)) = ap (λ e. AtRecord at (Refused e)) (refusal_back why)

abbrev told_note : Note → Result (Unit {0}) Rejection
told_note (Ok x) = Ok tt
told_note (Err (of_call why)) = Err (Call (refusal why))
told_note (Err (of_sheet f)) = Err (Sheet (told_fault f))

note_back : (x : Result (Unit {0}) Rejection) → told_note (note_of x) ≡ x
note_back (Ok x) = refl
note_back (Err (Call why)) = ap (λ e. Err (Call e)) (refusal_back why)
note_back (Err (Sheet f)) = ap (λ e. Err (Sheet e)) (fault_back f)

pub note_tells : (x y : Result (Unit {0}) Rejection) → note_of x ≡ note_of y → x ≡ y
note_tells x y same = sym (note_back x) ∙ ap told_note same ∙ note_back y

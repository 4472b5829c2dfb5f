-- Reading a sheet is performing its calls in order.
use Rattle.std.proofs.Common.{◌≡◌, ℕ, List, [], ◌∷◌, map, Ok, Err, Result, sym, refl, ap, subst}
use Rattle.kinds.specs.Arithmetic.{Arithmetic, Amount, Lawful}
use Rattle.net.specs.Refusals.{Reason}
use Rattle.net.specs.State.{State}
use Rattle.sheet.specs.Records.{Coding, Asked}
use Rattle.sheet.specs.Records.Asked.{begin, require, arrange}
use Rattle.sheet.specs.Faults.{Fault, in_net}
use Rattle.sheet.specs.Codes.{Amounts}
use Rattle.sheet.specs.declared.fault.SheetFault.{SheetFault}
use Rattle.sheet.specs.Outlines.{IfAmounts}
use Rattle.sheet.specs.Told.{fault_of}
use Rattle.sheet.specs.Told as sheet_told
use Rattle.sheet.specs.Sheets.{Entry, calls_in, entries_of, performed, after_answer, then, located, run, reading, concluded, read_sheet}
use Rattle.sheet.specs.Sheets.Entry.{asks, wrong}
use Rattle.history.specs.Deeds.{Deed, Action, Answer, accepted, refused}
use Rattle.history.specs.Deeds as deeds
use Rattle.history.specs.Deeds.Action.{reads}
use Rattle.history.specs.History.{First, needs, Step}
use Rattle.history.specs.History as history
use Rattle.history.specs.History.Reading.{whole, further, stopped, faulty}
use Rattle.history.specs.History.Step.{sheet_taken, sheet_turned_down}
use Rattle.history.specs.Standing.{ended, counted, Stands}
use Rattle.history.specs.Notes.{of_sheet, Note, FirstFault}
use Rattle.history.specs.Notes.FirstFault.{later, in_call, in_sheet}
use Rattle.history.specs.Notes.Noting.{accepts, faults}
use Rattle.history.specs.Runs.{Taken}
use Rattle.history.specs.SheetCalls.{deed_of, entry_of, sheet_of}
use Rattle.history.proofs.Pasts.{never}
use Rattle.history.proofs.Steps.{Plain, Good, Tallied, begins, requires, arranges, begins_tallied, requires_tallied, arranges_tallied}

-- the first call of a sheet is an amount's, and so are the others
abbrev AmountOf : Arithmetic → Asked → Type 0
AmountOf A (begin n) = Unit {0}
AmountOf A (require i j w) = Amount A w
AmountOf A (arrange list) = Unit {0}

first_amount : (A : Arithmetic) (c : Asked) (more : List Asked) → Amounts A (c ∷ more) → AmountOf A c × Amounts A more
first_amount A (begin n) more h = (tt, h)
first_amount A (require i j w) more h = h
first_amount A (arrange list) more h = (tt, h)

performed_good : {A : Arithmetic} (law : Lawful A) (cells : ℕ) (c : Asked) → AmountOf A c → (past : List Deed) (s : State) → Stands A past s → Good (Stands A) past (deed_of c) (needs A cells past (deed_of c)) (performed A cells c s)
performed_good law cells (begin n) fit past s st = begins law cells n past s st
performed_good law cells (require i j w) fit past s st = requires law cells i j w fit past s st
performed_good law cells (arrange list) fit past s st = arranges law cells list past s st

performed_tallied : (A : Arithmetic) (cells : ℕ) (c : Asked) (past : List Deed) (s : State) → Tallied past s → Good Tallied past (deed_of c) (needs A cells past (deed_of c)) (performed A cells c s)
performed_tallied A cells (begin n) past s st = begins_tallied A cells n past s st
performed_tallied A cells (require i j w) past s st = requires_tallied A cells i j w past s st
performed_tallied A cells (arrange list) past s st = arranges_tallied A cells list past s st

ok_same : {E : Type 0} (s t : State) → ◌≡◌ {A = Result State E} (Ok s) (Ok t) → s ≡ t
ok_same s t e = cc

err_same : (f g : Fault) → ◌≡◌ {A = Result State Fault} (Err f) (Err g) → f ≡ g
err_same f g e = cc

not_ok : {X : Type 0} (s : State) (f : Fault) → ◌≡◌ {A = Result State Fault} (Ok s) (Err f) → X
not_ok s f e = never (cc)

module _ {A : Arithmetic} (law : Lawful A) (sheet : List ℕ → List deeds.Entry) (cells : ℕ) where
  -- an accepted sheet
  abbrev Whole : List Deed → List Entry → State → Type 0
  Whole past entries t = (after : List Deed) × history.Reading A sheet cells past (map entry_of entries) accepted after × Stands A after t

  read_whole : (entries : List Entry) → Amounts A (calls_in entries) → (past : List Deed) (s t : State) → Stands A past s → run A cells entries s ≡ Ok t → Whole past entries t
  unfolding run
  read_whole [] fit past s t st e = (past, whole, subst (Stands A past) (ok_same s t e) st)
  read_whole (wrong why ∷ more) fit past s t st e = not_ok t why (sym e)
  read_whole (asks at c ∷ more) fit past s t st e =
      let (one, rest) = first_amount A c (calls_in more) fit in
      entering (performed A cells c s).answer (performed A cells c s).after (performed_good law cells c one past s st) e (λ u. read_whole more rest (deed_of c ∷ past) u t)
    where
      entering : (a : Result (Unit {0}) Reason) (u : State) → First (needs A cells past (deed_of c)) (ended a) × Stands A (counted (ended a) (deed_of c) past) u × Plain a → then (located at (after_answer a u)) (run A cells more) ≡ Ok t →
          ((u : State) → Stands A (deed_of c ∷ past) u → run A cells more u ≡ Ok t → Whole (deed_of c ∷ past) more t) → Whole past (asks at c ∷ more) t
      entering (Ok x) u g e go = let (after, h, k) = go u g.1 e in (after, further g.0 h, k)
      entering (Err why) u g e go = not_ok t (in_net why at) (sym e)

  -- a refused one
  abbrev Stopped : List Deed → List Entry → Fault → Type 0
  Stopped past entries f = (part : List Deed) × history.Reading A sheet cells past (map entry_of entries) (refused f.number) part × FirstFault A cells past entries f

  read_stopped : (entries : List Entry) (past : List Deed) (s : State) (f : Fault) → Tallied past s → run A cells entries s ≡ Err f → Stopped past entries f
  unfolding run
  read_stopped [] past s f st e = not_ok s f e
  read_stopped (wrong why ∷ more) past s f st e = subst (Stopped past (wrong why ∷ more)) (err_same why f e) (past, faulty, in_sheet)
  read_stopped (asks at c ∷ more) past s f st e =
      entering (performed A cells c s).answer (performed A cells c s).after (performed_tallied A cells c past s st) e (λ u. read_stopped more (deed_of c ∷ past) u f)
    where
      entering : (a : Result (Unit {0}) Reason) (u : State) → First (needs A cells past (deed_of c)) (ended a) × Tallied (counted (ended a) (deed_of c) past) u × Plain a → then (located at (after_answer a u)) (run A cells more) ≡ Err f →
          ((u : State) → Tallied (deed_of c ∷ past) u → run A cells more u ≡ Err f → Stopped (deed_of c ∷ past) more f) → Stopped past (asks at c ∷ more) f
      entering (Ok x) u g e go = let (part, h, k) = go u g.1 e in (part, further g.0 h, later g.0 k)
      entering (Err why) u g e go = subst (Stopped past (asks at c ∷ more)) (err_same (in_net why at) f e) (subst (λ (x : Reason). Stopped past (asks at c ∷ more) (in_net x at)) (sym g.2.0) (past, stopped g.0, in_call g.0))

-- how a read is noted
abbrev pub read_note : Result (Unit {0}) SheetFault → Note
read_note (Ok x) = Ok tt
read_note (Err fault) = Err (of_sheet (fault_of fault))

-- a read, by what it comes to
pub reads_sheet : (K : Coding) → Lawful K.arithmetic → (cells : ℕ) (bytes : List ℕ) (past : List Deed) (place : List ℕ) (s t : State) (answer : Result (Unit {0}) SheetFault) → Stands K.arithmetic past s → reading (sheet_told.answered answer) t ≡ read_sheet K cells bytes s → IfAmounts K.arithmetic answer (calls_in (entries_of K bytes)) → Taken K cells past (reads bytes) (read_note answer) place place t
reads_sheet K law cells bytes past place s t answer st e fit = by_run (run K.arithmetic cells (entries_of K bytes) s) refl e
  where
    accepted_read : (u : State) → run K.arithmetic cells (entries_of K bytes) s ≡ Ok u → (a : Result (Unit {0}) SheetFault) → IfAmounts K.arithmetic a (calls_in (entries_of K bytes)) → sheet_told.answered a ≡ Ok tt → t ≡ u → Taken K cells past (reads bytes) (read_note a) place place t
    accepted_read u done (Ok x) fit p q = let (after, h, k) = read_whole law (sheet_of K) cells (entries_of K bytes) fit past s u st done in (after, sheet_taken h, accepts, subst (Stands K.arithmetic after) (sym q) k)
    accepted_read u done (Err f) fit p q = never (cc)

    refused_read : (f : Fault) → run K.arithmetic cells (entries_of K bytes) s ≡ Err f → (a : Result (Unit {0}) SheetFault) → sheet_told.answered a ≡ Err f → t ≡ s → Taken K cells past (reads bytes) (read_note a) place place t
    refused_read f done (Ok x) p q = never (cc)
    refused_read f done (Err g) p q = let (part, h, k) = read_stopped law (sheet_of K) cells (entries_of K bytes) past s (fault_of g) (st.few, st.count) (cc) in (past, sheet_turned_down h, faults k, subst (Stands K.arithmetic past) (sym q) st)

    by_run : (r : Result State Fault) → run K.arithmetic cells (entries_of K bytes) s ≡ r → reading (sheet_told.answered answer) t ≡ concluded s r → Taken K cells past (reads bytes) (read_note answer) place place t
    by_run (Ok u) done e = accepted_read u done answer fit (ap (λ x. x.answer) e) (ap (λ x. x.after) e)
    by_run (Err f) done e = refused_read f done answer (ap (λ x. x.answer) e) (ap (λ x. x.after) e)

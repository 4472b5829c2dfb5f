use Rattle.std.proofs.Common.{◌≡◌, ℕ, min, List, ◌++◌, length, take, drop, ℤ, Ok, Err, Result, IsErrAnd, sym, refl, ap, ◌∙◌, subst, arith, length-take}
use Rattle.kinds.specs.Arithmetic.{Lawful, Inverse}
use Rattle.order.specs.declared.counts.Counts.{Counts}
use Rattle.net.specs.declared.refusal.Refusal.{Refusal}
use Rattle.net.specs.Refusals.{answered}
use Rattle.net.specs.Closing.{closing, closed, numbered, carried, Shown, Rest}
use Rattle.net.specs.State.{State, room}
use Rattle.sheet.specs.declared.fault.SheetFault.{SheetFault}
use Rattle.sheet.specs.Records.{Coding}
use Rattle.sheet.specs.Told.{coding_of}
use Rattle.history.specs.declared.rejection.Rejection.{Rejection}
use Rattle.history.specs.declared.rejection.Rejection.TheVariants.{Call, Sheet}
use Rattle.history.specs.Deeds.{Deed, Action}
use Rattle.history.specs.Deeds.Deed.{begin, require, withdraw, arrange, rank, close}
use Rattle.history.specs.Deeds.Action.{does}
use Rattle.history.specs.Standing.{Stands}
use Rattle.history.specs.Notes.{Note, call_note}
use Rattle.history.specs.Runs.{Taken}
use Rattle.history.specs.Told.{action, why_of, note_of}
use Rattle.history.proofs.Steps.{begins, requires, withdraws, arranges, ranks}
use Rattle.history.proofs.Readings.{read_note, reads_sheet}
use Rattle.history.proofs.Shown.{closes_of}
use Rattle.history.proofs.Places.{closes_front}
use Rattle.history.proofs.Laws.{outcome_taken, close_taken}
use Rattle.history.proofs.performing.apply.Goals as goal

-- an answer of the net that is passed on
net_ok : {T : Type 0} (r : Result T Refusal) (x : T) → r ≡ Ok x → call_note (answered r) ≡ Ok tt
net_ok r x e = ap (λ z. call_note (answered z)) e

net_err : {T : Type 0} (r : Result T Refusal) (e : Refusal) (x : Result (Unit {0}) Rejection) → r ≡ Err e → IsErrAnd x (λ y. y ≡ Call e) → call_note (answered r) ≡ note_of x
net_err r e (Ok x) was is = absurd is
net_err r e (Err y) was is = ap (λ z. call_note (answered z)) was ∙ ap (λ z. Err (why_of z)) (sym is)

-- of a sheet
sheet_ok : (r : Result (Unit {0}) SheetFault) (x : Unit {0}) → r ≡ Ok x → read_note r ≡ Ok tt
sheet_ok r x e = ap read_note e

sheet_err : (r : Result (Unit {0}) SheetFault) (e : SheetFault) (x : Result (Unit {0}) Rejection) → r ≡ Err e → IsErrAnd x (λ y. y ≡ Sheet e) → read_note r ≡ note_of x
sheet_err r e (Ok x) was is = absurd is
sheet_err r e (Err y) was is = ap read_note was ∙ ap (λ z. Err (why_of z)) (sym is)

-- the same call, with the same note
same : {K : Coding} {cells : ℕ} {past : List Deed} {c d : Action} {m n : Note} {before after : List ℕ} {t : State} → c ≡ d → m ≡ n → Taken K cells past d m before after t → Taken K cells past c n before after t
same {K = K} {cells = cells} {past = past} {d = d} {n = n} {before = before} {after = after} {t = t} e f h = subst (λ (x : Action). Taken K cells past x n before after t) (sym e) (subst (λ (x : Note). Taken K cells past d x before after t) f h)

-- a close that is given the front of a place
close_front : {K : Coding} (law : Lawful K.arithmetic) {minus : List ℤ → List ℤ} (inv : Inverse K.arithmetic minus) {cells : ℕ} (k m : ℕ) (place front : List ℕ) (s t : State) (past : List Deed) (r : Result Counts Refusal) → Stands K.arithmetic past s → m ≡ min k (length place) → length front ≡ length (take m place) →
    closing (numbered r) t ≡ closed K.arithmetic (length (take m place)) s → Shown K.arithmetic s.bounds front (carried r) → Rest s.events (take m place) front (carried r) → Taken K cells past (does (close (min k (length place)))) (call_note (answered r)) place (front ++ drop m place) t
close_front {K = K} law inv {cells = cells} k m place front s t past r st is long told shown rest =
    let many : min k (length place) ≡ length (take m place) = let have = length-take m place in omega arith in
    subst (λ (n : ℕ). Taken K cells past (does (close n)) (call_note (answered r)) place (front ++ drop m place) t) (sym many)
    (close_taken K law inv cells (length (take m place)) past s t st place _ (answered r) (closes_front K.arithmetic m s t place front (answered r) (closes_of K.arithmetic s t (take m place) front r long told shown rest)))

pub returns-in_err-begin-in-Begin-clause-takes : goal.returns-in_err-begin-in-Begin-clause-takes
returns-in_err-begin-in-Begin-clause-takes g c past st = same (ap (action g.K.Kind.amount _) c.in-Begin.is) (net_err _ _ _ c.in_err-begin-in-Begin.was c.from_residual.ensures.1) (outcome_taken (begin _) _ _ _ past _ c.begin.ensures.outcome (begins g.met.K.Kind.lawful (room c.args.net.now) _ past _ st))

pub returns-in_ok-begin-in-Begin-clause-takes : goal.returns-in_ok-begin-in-Begin-clause-takes
returns-in_ok-begin-in-Begin-clause-takes g c past st = same (ap (action g.K.Kind.amount _) c.in-Begin.is) (net_ok _ _ c.in_ok-begin-in-Begin.was) (outcome_taken (begin _) _ _ _ past _ c.begin.ensures.outcome (begins g.met.K.Kind.lawful (room c.args.net.now) _ past _ st))

pub returns-in_err-require-in-Require-clause-takes : goal.returns-in_err-require-in-Require-clause-takes
returns-in_err-require-in-Require-clause-takes g c past st = same (ap (action g.K.Kind.amount _) c.in-Require.is) (net_err _ _ _ c.in_err-require-in-Require.was c.from_residual-in_err-require-in-Require.ensures.1) (outcome_taken (require _ _ _) _ _ _ past _ c.require.ensures.outcome (requires g.met.K.Kind.lawful (room c.args.net.now) _ _ _ (g.met.K.Kind.amounts _) past _ st))

pub returns-in_ok-require-in-Require-clause-takes : goal.returns-in_ok-require-in-Require-clause-takes
returns-in_ok-require-in-Require-clause-takes g c past st = same (ap (action g.K.Kind.amount _) c.in-Require.is) (net_ok _ _ c.in_ok-require-in-Require.was) (outcome_taken (require _ _ _) _ _ _ past _ c.require.ensures.outcome (requires g.met.K.Kind.lawful (room c.args.net.now) _ _ _ (g.met.K.Kind.amounts _) past _ st))

pub returns-in_err-withdraw-in-Withdraw-clause-takes : goal.returns-in_err-withdraw-in-Withdraw-clause-takes
returns-in_err-withdraw-in-Withdraw-clause-takes g c past st = same (ap (action g.K.Kind.amount _) c.in-Withdraw.is) (net_err _ _ _ c.in_err-withdraw-in-Withdraw.was c.from_residual-in_err-withdraw-in-Withdraw.ensures.1) (outcome_taken (withdraw _ _) _ _ _ past _ c.withdraw.ensures.outcome (withdraws g.met.K.Kind.lawful (room c.args.net.now) _ _ past _ st))

pub returns-in_ok-withdraw-in-Withdraw-clause-takes : goal.returns-in_ok-withdraw-in-Withdraw-clause-takes
returns-in_ok-withdraw-in-Withdraw-clause-takes g c past st = same (ap (action g.K.Kind.amount _) c.in-Withdraw.is) (net_ok _ _ c.in_ok-withdraw-in-Withdraw.was) (outcome_taken (withdraw _ _) _ _ _ past _ c.withdraw.ensures.outcome (withdraws g.met.K.Kind.lawful (room c.args.net.now) _ _ past _ st))

pub returns-in_err-arrange-in-Arrange-clause-takes : goal.returns-in_err-arrange-in-Arrange-clause-takes
returns-in_err-arrange-in-Arrange-clause-takes g c past st = same (ap (action g.K.Kind.amount _) c.in-Arrange.is) (net_err _ _ _ c.in_err-arrange-in-Arrange.was c.from_residual-in_err-arrange-in-Arrange.ensures.1) (outcome_taken (arrange _) _ _ _ past _ c.arrange.ensures.outcome (arranges g.met.K.Kind.lawful (room c.args.net.now) _ past _ st))

pub returns-in_ok-arrange-in-Arrange-clause-takes : goal.returns-in_ok-arrange-in-Arrange-clause-takes
returns-in_ok-arrange-in-Arrange-clause-takes g c past st = same (ap (action g.K.Kind.amount _) c.in-Arrange.is) (net_ok _ _ c.in_ok-arrange-in-Arrange.was) (outcome_taken (arrange _) _ _ _ past _ c.arrange.ensures.outcome (arranges g.met.K.Kind.lawful (room c.args.net.now) _ past _ st))

pub returns-in_err-read-in-Read-clause-takes : goal.returns-in_err-read-in-Read-clause-takes
returns-in_err-read-in-Read-clause-takes g c past st = same (ap (action g.K.Kind.amount _) c.in-Read.is) (sheet_err _ _ _ c.in_err-read-in-Read.was c.from_residual-in_err-read-in-Read.ensures.1) (reads_sheet (coding_of g.K.Kind) g.met.K.Kind.lawful (room c.args.net.now) _ past _ _ _ c.read.result st c.read.ensures.reading c.read.ensures.amounts)

pub returns-in_ok-read-in-Read-clause-takes : goal.returns-in_ok-read-in-Read-clause-takes
returns-in_ok-read-in-Read-clause-takes g c past st = same (ap (action g.K.Kind.amount _) c.in-Read.is) (sheet_ok _ _ c.in_ok-read-in-Read.was) (reads_sheet (coding_of g.K.Kind) g.met.K.Kind.lawful (room c.args.net.now) _ past _ _ _ c.read.result st c.read.ensures.reading c.read.ensures.amounts)

pub returns-in-Rank-clause-takes : goal.returns-in-Rank-clause-takes
returns-in-Rank-clause-takes g c past st = same (ap (action g.K.Kind.amount _) c.in-Rank.is) refl (outcome_taken rank _ _ _ past _ c.rank.ensures.outcome (ranks g.met.K.Kind.lawful (room c.args.net.now) past _ st))

pub returns-in_err-close-in-Close-clause-takes : goal.returns-in_err-close-in-Close-clause-takes
returns-in_err-close-in-Close-clause-takes g c past st =
    let sound = st.sound in
    same (ap (action g.K.Kind.amount _) c.in-Close.is) (net_err _ _ _ c.in_err-close-in-Close.was c.from_residual-in_err-close-in-Close.ensures.1) (close_front g.met.K.Kind.lawful g.met.K.Kind.inverse _ c.min-bytes.result c.args.place.now c.close.new.place _ _ past c.close.result st c.min-bytes.ensures c.close.auto.place (c.close.ensures.outcome sound) (c.close.ensures.shows sound) c.close.ensures.rest)

pub returns-in_ok-close-in-Close-clause-takes : goal.returns-in_ok-close-in-Close-clause-takes
returns-in_ok-close-in-Close-clause-takes g c past st =
    let sound = st.sound in
    same (ap (action g.K.Kind.amount _) c.in-Close.is) (net_ok _ _ c.in_ok-close-in-Close.was) (close_front g.met.K.Kind.lawful g.met.K.Kind.inverse _ c.min-bytes.result c.args.place.now c.close.new.place _ _ past c.close.result st c.min-bytes.ensures c.close.auto.place (c.close.ensures.outcome sound) (c.close.ensures.shows sound) c.close.ensures.rest)

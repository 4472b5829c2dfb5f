-- One record more is taken.
use Rattle.std.proofs.Common.{◌≡◌, ℕ, Some, Ok, Err, Result, refl, ◌∙◌, subst, arith, rules}
use Rattle.std.specs.Result.{MatchResult, IsErrAnd}
use Rattle.std.proofs.lemmas.Result.{err_from_is_err_and}
use Rattle.sheet.specs.Sheets.{next_at}
use Rattle.sheet.specs.Told.{coding_of, ComesTo}
use Rattle.sheet.specs.declared.fault.RecordFault.{RecordFault}
use Rattle.sheet.specs.declared.fault.SheetFault.{SheetFault}
use Rattle.sheet.specs.declared.fault.SheetFault.TheVariants.{AtRecord}
use Rattle.sheet.proofs.Nexts.{stands}
use Rattle.sheet.proofs.Runs.{other_version, reads_on, reads_stop, reads_end, reads_fault}
use Rattle.sheet.proofs.reading.take_all.Goals as goal

-- an answer whose fault is told with an offset
accepted : (Q : RecordFault → SheetFault → Type 0) (r : Result (Unit {0}) RecordFault) (m : Result (Unit {0}) SheetFault) → MatchResult r (λ x. m ≡ Ok x) (λ e. IsErrAnd m (Q e)) → m ≡ Ok tt → r ≡ Ok tt
accepted Q (Ok x) m h e = refl
accepted Q (Err y) m h e = let p = err_from_is_err_and m h in let z : ◌≡◌ {A = ℕ} 0 1 = cc in absurd (omega arith)

refused : (Q : RecordFault → SheetFault → Type 0) (r : Result (Unit {0}) RecordFault) (m : Result (Unit {0}) SheetFault) (f : SheetFault) → MatchResult r (λ x. m ≡ Ok x) (λ e. IsErrAnd m (Q e)) → m ≡ Err f → (e : RecordFault) × (r ≡ Err e) × Q e f
refused Q (Ok x) m f h e = let z : ◌≡◌ {A = ℕ} 0 1 = cc in absurd (omega arith)
refused Q (Err y) m f h e = let p = err_from_is_err_and m h in let q : p.0 ≡ f = cc in (y, refl, subst (Q y) q p.2)

pub returns-in_err-found-items-clause-taken : goal.returns-in_err-found-items-clause-taken
returns-in_err-found-items-clause-taken g c = λ s h.
    let p = err_from_is_err_and c.from_residual.result c.from_residual.ensures.1 in
    let e = c.in_err-found-items.ensures in
    rw (p.1, p.2, e.0) (other_version (coding_of g.K.Kind) c.args.sheet.now g.K.Kind.arithmetic (g.T.Performs.cells c.args.to.now) s e.1)

pub returns-in_err-found-clause-taken : goal.returns-in_err-found-clause-taken
returns-in_err-found-clause-taken g c = λ s h.
    let p = err_from_is_err_and c.from_residual-in_err-found.result c.from_residual-in_err-found.ensures.1 in
    let r = c.loop-found.invariant.reads in
    let at = stands c.loop-found.found-iterator c.next.new.self _ c.args.sheet.now r.0 c.in-Some.ensures.steps c.loop-found.invariant.same r.1 in
    let u = r.2 s h in
    rw (p.1, p.2) (reads_fault (coding_of g.K.Kind) (g.T.Performs.cells c.args.to.now) c.args.sheet.now s r.0 (g.T.Performs.shows c.loop-found.to) u.0 u.1 _ (rw c.in_err-found.was at at))

pub loop-found-preserved : goal.loop-found-preserved
loop-found-preserved g c =
    let r = c.loop-found.invariant.reads in
    let at = stands c.loop-found.found-iterator c.next.new.self _ c.args.sheet.now r.0 c.in-Some.ensures.steps c.loop-found.invariant.same r.1 in
    let n = subst (λ q. ComesTo (next_at c.args.sheet.now r.0) (Some q) c.next.new.self.at) c.in_ok-found.was at in
    let ok = accepted _ c.take.result c.map_err.result c.map_err.ensures.cases c.in_ok-map_err.was in
    record {
      same = c.in-Some.ensures.steps.same ∙ c.loop-found.invariant.same;
      room = c.take.ensures.room ∙ c.loop-found.invariant.room;
      kept = g.met.T.Performs.keeps_on _ _ _ c.loop-found.invariant.kept c.take.ensures.kept;
      reads = (n.0, n.1, λ s h. let u = r.2 s h in reads_on (coding_of g.K.Kind) (g.T.Performs.cells c.args.to.now) c.args.sheet.now s r.0 (g.T.Performs.shows c.loop-found.to) u.0 u.1 c.in_ok-found.found n.0 (g.T.Performs.cells c.loop-found.to) (g.T.Performs.shows c.take.new.to) n.2 c.loop-found.invariant.room c.take.ensures.codes (rw ok at (c.take.ensures.taken u.0 u.1.shown)));
    }

pub returns-in_err-map_err-clause-taken : goal.returns-in_err-map_err-clause-taken
returns-in_err-map_err-clause-taken g c = λ s h.
    let p = err_from_is_err_and c.from_residual-in_err-map_err.result c.from_residual-in_err-map_err.ensures.1 in
    let r = c.loop-found.invariant.reads in
    let at = stands c.loop-found.found-iterator c.next.new.self _ c.args.sheet.now r.0 c.in-Some.ensures.steps c.loop-found.invariant.same r.1 in
    let n = subst (λ q. ComesTo (next_at c.args.sheet.now r.0) (Some q) c.next.new.self.at) c.in_ok-found.was at in
    let u = r.2 s h in
    let why = refused _ c.take.result c.map_err.result _ c.map_err.ensures.cases c.in_err-map_err.was in
    let told : c.in_err-map_err.field-0.0 ≡ AtRecord c.in_ok-found.found.offset why.0 = search rules in
    rw (p.1, p.2, told) (reads_stop (coding_of g.K.Kind) (g.T.Performs.cells c.args.to.now) c.args.sheet.now s r.0 (g.T.Performs.shows c.loop-found.to) u.0 u.1 c.in_ok-found.found n.0 (g.T.Performs.cells c.loop-found.to) why.0 (g.T.Performs.shows c.take.new.to) n.2 c.loop-found.invariant.room (rw why.1 at (c.take.ensures.taken u.0 u.1.shown)))

pub returns-in_err-map_err-clause-kept : goal.returns-in_err-map_err-clause-kept
returns-in_err-map_err-clause-kept g c = g.met.T.Performs.keeps_on _ _ _ c.loop-found.invariant.kept c.take.ensures.kept

pub returns-clause-taken : goal.returns-clause-taken
returns-clause-taken g c = λ s h.
    let r = c.loop-found.invariant.reads in
    let at = stands c.loop-found.found-iterator c.next.new.self _ c.args.sheet.now r.0 c.in-None.ensures.steps c.loop-found.invariant.same r.1 in
    let u = r.2 s h in
    (u.0, reads_end (coding_of g.K.Kind) (g.T.Performs.cells c.args.to.now) c.args.sheet.now s r.0 (g.T.Performs.shows c.loop-found.to) u.0 u.1 at)

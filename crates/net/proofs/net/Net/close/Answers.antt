use Rattle.std.proofs.Common.{take, Ok, Err, refl, arith}
use Rattle.std.proofs.lemmas.Result.{err_from_is_err_and}
use Rattle.net.specs.declared.mode.Mode.TheVariants.{Open, Closed}
use Rattle.net.specs.State.{state}
use Rattle.net.proofs.Closings.{close_schedules, close_short, closes, close_done, close_fails, sound_closed, still_holds, kept_open}
use Rattle.net.proofs.net.Net.close.Goals as goal

pub returns-then-place-events-clause-outcome : goal.returns-then-place-events-clause-outcome
returns-then-place-events-clause-outcome g c = λ s. close_short _ _ (state g.K.Kind.amount c.args.self.now) (omega arith)

-- the bounds contradict
pub returns-in_err-close_cells-clause-outcome : goal.returns-in_err-close_cells-clause-outcome
returns-in_err-close_cells-clause-outcome g c =
    let p = err_from_is_err_and c.from_residual.result c.from_residual.ensures.1 in
    let e = c.in_err-close_cells.ensures in
    let why = c.in_err-close_cells.field-0.0 in
    let t = c.args.self.now.table in
    rw (p.1, p.2) (λ s. close_fails g.K.Kind.arithmetic g.met.K.Kind.lawful g.K.Kind.amount c.args.self.now.mode t c.close_cells.new.table e.kept e.same _ (take why.shown c.close_cells.new.place) (omega arith) s
    (closes g.K.Kind.arithmetic g.met.K.Kind.lawful g.K.Kind.amount c.args.self.now.mode t c.close_cells.new.table e.kept e.same c.close_cells.new.place (Err why) s e.ends))

pub returns-in_err-close_cells-clause-schedules : goal.returns-in_err-close_cells-clause-schedules
returns-in_err-close_cells-clause-schedules g c = λ s l.
    close_schedules g.K.Kind.arithmetic g.met.K.Kind.lawful g.K.Kind.minus g.met.K.Kind.inverse _ (state g.K.Kind.amount c.args.self.now) _ _ s l (returns-in_err-close_cells-clause-outcome g c s)

pub returns-in_err-close_cells-clause-sound : goal.returns-in_err-close_cells-clause-sound
returns-in_err-close_cells-clause-sound g c =
    let e = c.in_err-close_cells.ensures in
    sound_closed g.K.Kind.arithmetic g.met.K.Kind.lawful g.K.Kind.amount c.args.self.now.mode c.args.self.now.table c.close_cells.new.table e.kept e.same Open

pub returns-in_err-close_cells-clause-faithful : goal.returns-in_err-close_cells-clause-faithful
returns-in_err-close_cells-clause-faithful g c = λ k. kept_open g.K.Kind.arithmetic g.K.Kind.amount _ (returns-in_err-close_cells-clause-sound g c k.sound) refl

-- they do not
pub returns-clause-outcome : goal.returns-clause-outcome
returns-clause-outcome g c = λ s.
    let e = c.in_ok-close_cells.ensures in
    let t = c.args.self.now.table in
    let calm = closes g.K.Kind.arithmetic g.met.K.Kind.lawful g.K.Kind.amount c.args.self.now.mode t c.close_cells.new.table e.kept e.same c.close_cells.new.place (Ok tt) s e.ends in
    close_done g.K.Kind.arithmetic g.met.K.Kind.lawful g.K.Kind.amount c.args.self.now.mode t c.close_cells.new.table e.kept e.same _ c.counts.result (omega arith) calm.0 c.counts.ensures.value

pub returns-clause-schedules : goal.returns-clause-schedules
returns-clause-schedules g c = λ s l.
    close_schedules g.K.Kind.arithmetic g.met.K.Kind.lawful g.K.Kind.minus g.met.K.Kind.inverse _ (state g.K.Kind.amount c.args.self.now) _ _ s l (returns-clause-outcome g c s)

pub returns-clause-sound : goal.returns-clause-sound
returns-clause-sound g c =
    let e = c.in_ok-close_cells.ensures in
    sound_closed g.K.Kind.arithmetic g.met.K.Kind.lawful g.K.Kind.amount c.args.self.now.mode c.args.self.now.table c.close_cells.new.table e.kept e.same Closed

pub returns-clause-faithful : goal.returns-clause-faithful
returns-clause-faithful g c = λ k.
    let e = c.in_ok-close_cells.ensures in
    let t = c.args.self.now.table in
    let calm = closes g.K.Kind.arithmetic g.met.K.Kind.lawful g.K.Kind.amount c.args.self.now.mode t c.close_cells.new.table e.kept e.same c.close_cells.new.place (Ok tt) k.sound e.ends in
    record { sound = returns-clause-sound g c k.sound; holds = λ _. still_holds g.K.Kind.arithmetic g.met.K.Kind.lawful g.K.Kind.amount c.args.self.now.mode t c.close_cells.new.table e.kept e.same calm.1 }

use Rattle.std.proofs.Common.{◌*◌, length, refl, ap, ◌∙◌}
use Rattle.std.proofs.lemmas.Result.{err_from_is_err_and}
use Rattle.table.proofs.Tables.{clear_length}
use Rattle.net.specs.State.{accepted, state}
use Rattle.net.proofs.States.{stated_fresh}
use Rattle.net.proofs.Outcomes.{refused_by, begin_decided, begin_done}
use Rattle.net.proofs.Closings.{kept_after}
use Rattle.net.proofs.Soundness.{sound_begun, sound_after}
use Rattle.net.proofs.net.Net.begin.Goals as goal

pub returns-in_err-check_begin-clause-outcome : goal.returns-in_err-check_begin-clause-outcome
returns-in_err-check_begin-clause-outcome g c =
    let p = err_from_is_err_and c.from_residual.result c.from_residual.ensures.1 in
    rw (p.1, p.2) (refused_by _ _ _ _ (begin_decided _ c.args.n (state g.K.Kind.amount c.args.self.now)) (rw c.room.ensures at (c.in_err-check_begin.ensures.value (state g.K.Kind.amount c.args.self.now))))

pub returns-clause-outcome : goal.returns-clause-outcome
returns-clause-outcome g c =
    let good = rw c.room.ensures at c.in_ok-check_begin.ensures.good in
    ap accepted (stated_fresh g.K.Kind.amount c.args.n c.begin.new.self.order _ c.begin.new.self.cells.now c.begin.ensures.order c.begin.ensures.cells) ∙ begin_done _ c.args.n _ good.0 good.1 good.2

pub returns-clause-kept : goal.returns-clause-kept
returns-clause-kept g c = ap length c.begin.ensures.cells ∙ clear_length (c.args.n * c.args.n) _

pub returns-clause-sound : goal.returns-clause-sound
returns-clause-sound g c = λ s. sound_after g.K.Kind.arithmetic _ _ (returns-clause-outcome g c) (sound_begun g.K.Kind.arithmetic _ c.args.n _ s)

pub returns-clause-faithful : goal.returns-clause-faithful
returns-clause-faithful g c = λ k. kept_after g.K.Kind.arithmetic g.K.Kind.amount _ _ (returns-clause-outcome g c) (sound_begun g.K.Kind.arithmetic _ c.args.n _ k.sound) refl

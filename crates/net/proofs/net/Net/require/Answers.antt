use Rattle.std.proofs.Common.{refl, sym, ap, ◌∙◌}
use Rattle.std.proofs.lemmas.Result.{err_from_is_err_and}
use Rattle.net.specs.State.{accepted, rebound, state}
use Rattle.net.proofs.States.{stated_put}
use Rattle.net.proofs.Outcomes.{refused_by, require_decided, require_done, lesser_held}
use Rattle.net.proofs.Closings.{kept_after}
use Rattle.net.proofs.Soundness.{sound_required, sound_after}
use Rattle.net.proofs.net.Net.require.Goals as goal

pub returns-in_err-check_require-clause-outcome : goal.returns-in_err-check_require-clause-outcome
returns-in_err-check_require-clause-outcome g c =
    let p = err_from_is_err_and c.from_residual.result c.from_residual.ensures.1 in
    rw (p.1, p.2) (refused_by _ _ _ _ (require_decided g.K.Kind.arithmetic c.args.i c.args.j (g.K.Kind.amount c.args.bound) (state g.K.Kind.amount c.args.self.now)) (c.in_err-check_require.ensures.value _ (sym c.events.ensures)))

pub returns-clause-outcome : goal.returns-clause-outcome
returns-clause-outcome g c =
    let good = rw c.events.ensures at c.in_ok-check_require.ensures.good in
    let s = state g.K.Kind.amount c.args.self.now in
    let laid = c.lesser-cell.ensures ∙ lesser_held g.K.Kind.arithmetic g.K.Kind.amount c.args.self.now.table c.args.i c.args.j c.at-cell.result (g.K.Kind.amount c.args.bound) good.0 good.1 c.at-cell.ensures in
    ap accepted (stated_put g.K.Kind.amount c.args.self.now.table c.put.new.self c.args.self.now.mode c.args.i c.args.j _ good.0 good.1 c.put.ensures.cells c.put.ensures.order ∙ ap (rebound s c.args.i c.args.j) laid)
    ∙ require_done g.K.Kind.arithmetic c.args.i c.args.j (g.K.Kind.amount c.args.bound) s good.0 good.1 good.2 good.3

pub returns-clause-sound : goal.returns-clause-sound
returns-clause-sound g c = λ s. sound_after g.K.Kind.arithmetic _ _ (returns-clause-outcome g c) (sound_required g.K.Kind.arithmetic c.args.i c.args.j _ _ (g.met.K.Kind.amounts c.args.bound) s)

pub returns-clause-faithful : goal.returns-clause-faithful
returns-clause-faithful g c = λ k. kept_after g.K.Kind.arithmetic g.K.Kind.amount _ _ (returns-clause-outcome g c) (sound_required g.K.Kind.arithmetic c.args.i c.args.j _ _ (g.met.K.Kind.amounts c.args.bound) k.sound) refl

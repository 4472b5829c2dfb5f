use Rattle.std.proofs.Common.{refl, ap, ◌∙◌}
use Rattle.std.proofs.lemmas.Result.{err_from_is_err_and}
use Rattle.net.specs.State.{accepted, state}
use Rattle.net.proofs.States.{stated_ordered}
use Rattle.net.proofs.Outcomes.{arrange_no, arrange_done, order_count}
use Rattle.net.proofs.Closings.{kept_after}
use Rattle.net.proofs.Soundness.{sound_arranged, sound_after}
use Rattle.net.proofs.net.Net.arrange.Goals as goal

pub returns-in_err-order-clause-outcome : goal.returns-in_err-order-clause-outcome
returns-in_err-order-clause-outcome g c =
    let p = err_from_is_err_and c.from_residual.result c.from_residual.ensures.1 in
    rw (p.1, p.2) (arrange_no _ (state g.K.Kind.amount c.args.self.now) _ (rw c.events.ensures at c.in_err-order.ensures))

pub arrange-requires : goal.arrange-requires
arrange-requires g c = order_count _ c.args.list.now c.in_ok-order.order (rw c.events.ensures at c.in_ok-order.ensures)

pub returns-clause-outcome : goal.returns-clause-outcome
returns-clause-outcome g c =
    let told = rw c.events.ensures at c.in_ok-order.ensures in
    ap accepted (stated_ordered g.K.Kind.amount c.args.self.now.table c.arrange.new.self c.args.self.now.mode c.in_ok-order.order (order_count _ c.args.list.now c.in_ok-order.order told) c.arrange.ensures.cells c.arrange.ensures.order)
    ∙ arrange_done _ _ _ told

pub returns-clause-sound : goal.returns-clause-sound
returns-clause-sound g c = λ s. sound_after g.K.Kind.arithmetic _ _ (returns-clause-outcome g c) (sound_arranged g.K.Kind.arithmetic c.args.list.now _ s)

pub returns-clause-faithful : goal.returns-clause-faithful
returns-clause-faithful g c = λ k. kept_after g.K.Kind.arithmetic g.K.Kind.amount _ _ (returns-clause-outcome g c) (sound_arranged g.K.Kind.arithmetic c.args.list.now _ k.sound) refl

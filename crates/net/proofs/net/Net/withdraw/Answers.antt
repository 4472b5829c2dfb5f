use Rattle.std.proofs.Common.{◌≡◌, Some, None, refl, sym, ap, ◌∙◌, arith}
use Rattle.std.proofs.lemmas.Result.{err_from_is_err_and}
use Rattle.table.specs.Cells.{amount_of}
use Rattle.net.specs.declared.refusal.Refusal.TheVariants.{NothingToWithdraw}
use Rattle.net.specs.State.{accepted, rebound, state}
use Rattle.net.proofs.States.{stated_put}
use Rattle.net.proofs.Outcomes.{withdraw_pair, withdraw_none, withdraw_done, bound_held}
use Rattle.net.proofs.Closings.{kept_after}
use Rattle.net.proofs.Soundness.{sound_withdrawn, sound_after}
use Rattle.net.proofs.net.Net.withdraw.Goals as goal

pub returns-in_err-check_pair-clause-outcome : goal.returns-in_err-check_pair-clause-outcome
returns-in_err-check_pair-clause-outcome g c =
    let p = err_from_is_err_and c.from_residual.result c.from_residual.ensures.1 in
    rw (p.1, p.2) (withdraw_pair _ _ (state g.K.Kind.amount c.args.self.now) _ (rw c.events.ensures at c.in_err-check_pair.ensures.value))

pub returns-in_err-ok_or-clause-outcome : goal.returns-in_err-ok_or-clause-outcome
returns-in_err-ok_or-clause-outcome g c =
    let p = err_from_is_err_and c.from_residual-in_err-ok_or.result c.from_residual-in_err-ok_or.ensures.1 in
    let good = rw c.events.ensures at c.in_ok-check_pair.ensures.good in
    let none : c.at-held.result.bound ≡ None = grind (arith, c.in_err-ok_or.ensures.value, c.take.ensures.value) in
    let why : c.in_err-ok_or.field-0.0 ≡ NothingToWithdraw = grind (arith, c.in_err-ok_or.ensures.value) in
    rw (p.1, p.2, why) (withdraw_none _ _ (state g.K.Kind.amount c.args.self.now) good.0 good.1 good.2
    (sym (bound_held g.K.Kind.amount c.args.self.now.table c.args.i c.args.j c.at-held.result good.0 good.1 c.at-held.ensures) ∙ ap (amount_of g.K.Kind.amount) none))

pub returns-clause-outcome : goal.returns-clause-outcome
returns-clause-outcome g c =
    let good = rw c.events.ensures at c.in_ok-check_pair.ensures.good in
    let s = state g.K.Kind.amount c.args.self.now in
    let held : c.at-held.result.bound ≡ Some c.in_ok-ok_or.field-0 = grind (arith, c.in_ok-ok_or.ensures.value, c.take.ensures.value) in
    ap accepted (stated_put g.K.Kind.amount c.args.self.now.table c.put.new.self c.args.self.now.mode c.args.i c.args.j _ good.0 good.1 c.put.ensures.cells c.put.ensures.order ∙ ap (λ o. rebound s c.args.i c.args.j (amount_of g.K.Kind.amount o)) c.take.ensures.after)
    ∙ withdraw_done c.args.i c.args.j s (g.K.Kind.amount c.in_ok-ok_or.field-0) good.0 good.1 good.2
    (sym (bound_held g.K.Kind.amount c.args.self.now.table c.args.i c.args.j c.at-held.result good.0 good.1 c.at-held.ensures) ∙ ap (amount_of g.K.Kind.amount) held)

pub returns-clause-sound : goal.returns-clause-sound
returns-clause-sound g c = λ s. sound_after g.K.Kind.arithmetic _ _ (returns-clause-outcome g c) (sound_withdrawn g.K.Kind.arithmetic c.args.i c.args.j _ s)

pub returns-clause-faithful : goal.returns-clause-faithful
returns-clause-faithful g c = λ k. kept_after g.K.Kind.arithmetic g.K.Kind.amount _ _ (returns-clause-outcome g c) (sound_withdrawn g.K.Kind.arithmetic c.args.i c.args.j _ k.sound) refl

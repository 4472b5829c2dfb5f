use Rattle.std.proofs.Common.{Ok, ap, ◌∙◌}
use Rattle.std.proofs.lemmas.Result.{err_from_is_err_and}
use Rattle.net.specs.State.{state}
use Rattle.net.proofs.Outcomes.{told_events, told_bound, bound_held}
use Rattle.net.proofs.net.Net.bound.Goals as goal

pub returns-in_err-check_events : goal.returns-in_err-check_events
returns-in_err-check_events g c =
    let p = err_from_is_err_and c.from_residual.result c.from_residual.ensures.1 in
    rw (p.1, p.2) (told_events _ _ (state g.K.Kind.amount c.args.self.now) _ (rw c.events.ensures at c.in_err-check_events.ensures.value))

pub returns : goal.returns
returns g c =
    let good = rw c.events.ensures at c.in_ok-check_events.ensures.good in
    ap Ok (bound_held g.K.Kind.amount c.args.self.now.table c.args.i c.args.j c.at-cell.result good.0 good.1 c.at-cell.ensures) ∙ told_bound c.args.i c.args.j (state g.K.Kind.amount c.args.self.now) good.0 good.1

use Rattle.std.proofs.Common.{rules}
use Rattle.std.proofs.lemmas.Result.{err_from_is_err_and}
use Rattle.net.proofs.Askings.{asked_outside, asked_open, asked_good, not_open}
use Rattle.net.proofs.net.Net.check_asked.Goals as goal

pub returns-in_err-check_events-clause-value : goal.returns-in_err-check_events-clause-value
returns-in_err-check_events-clause-value g c =
    let p = err_from_is_err_and c.from_residual.result c.from_residual.ensures.1 in
    rw (p.1, p.2) (asked_outside _ c.args.self.now.mode _ _ _ (rw c.events.ensures at c.in_err-check_events.ensures.value))

pub returns-then-eq-clause-value : goal.returns-then-eq-clause-value
returns-then-eq-clause-value g c =
    let good = rw c.events.ensures at c.in_ok-check_events.ensures.good in
    asked_open _ c.args.self.now.mode _ _ good.0 good.1 (search rules)

pub returns-clause-value : goal.returns-clause-value
returns-clause-value g c =
    let good = rw c.events.ensures at c.in_ok-check_events.ensures.good in
    asked_good _ c.args.self.now.mode _ _ _ good.0 good.1 (search (rules, not_open))

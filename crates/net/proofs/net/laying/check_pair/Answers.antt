use Rattle.std.proofs.Common.{arith}
use Rattle.std.proofs.lemmas.Result.{err_from_is_err_and}
use Rattle.net.proofs.Outcomes.{pair_events, pair_same, pair_good}
use Rattle.net.proofs.net.laying.check_pair.Goals as goal

pub returns-in_err-check_events-clause-value : goal.returns-in_err-check_events-clause-value
returns-in_err-check_events-clause-value c =
    let p = err_from_is_err_and c.from_residual.result c.from_residual.ensures.1 in
    rw (p.1, p.2) (pair_events c.args.n c.args.i c.args.j _ c.in_err-check_events.ensures.value)

pub returns-then-i-j-clause-value : goal.returns-then-i-j-clause-value
returns-then-i-j-clause-value c = let g = c.in_ok-check_events.ensures.good in pair_same c.args.n c.args.i c.args.j g.0 g.1 (omega arith)

pub returns-clause-value : goal.returns-clause-value
returns-clause-value c = let g = c.in_ok-check_events.ensures.good in pair_good c.args.n c.args.i c.args.j g.0 g.1 (omega arith)

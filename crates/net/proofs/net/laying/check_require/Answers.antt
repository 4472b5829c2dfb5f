use Rattle.std.proofs.Common.{ap, arith}
use Rattle.std.proofs.lemmas.Result.{err_from_is_err_and}
use Rattle.net.proofs.Outcomes.{require_pair, require_large, require_done}
use Rattle.net.proofs.net.laying.check_require.Goals as goal

pub returns-in_err-check_pair-clause-value : goal.returns-in_err-check_pair-clause-value
returns-in_err-check_pair-clause-value g c =
    let p = err_from_is_err_and c.from_residual.result c.from_residual.ensures.1 in
    rw (p.1, p.2) (λ s e. ap (λ o. o.answer) (require_pair g.K.Kind.arithmetic c.args.i c.args.j (g.K.Kind.amount c.args.bound) s _ (rw e c.in_err-check_pair.ensures.value)))

pub returns-then-size-gt-MOST_SIZE-clause-value : goal.returns-then-size-gt-MOST_SIZE-clause-value
returns-then-size-gt-MOST_SIZE-clause-value g c = λ s e.
    let pair = c.in_ok-check_pair.ensures.good in
    ap (λ o. o.answer) (require_large g.K.Kind.arithmetic c.args.i c.args.j (g.K.Kind.amount c.args.bound) s (omega (arith, pair.0)) (omega (arith, pair.1)) pair.2 (omega arith))

pub returns-clause-value : goal.returns-clause-value
returns-clause-value g c = λ s e.
    let pair = c.in_ok-check_pair.ensures.good in
    ap (λ o. o.answer) (require_done g.K.Kind.arithmetic c.args.i c.args.j (g.K.Kind.amount c.args.bound) s (omega (arith, pair.0)) (omega (arith, pair.1)) pair.2 (omega arith))

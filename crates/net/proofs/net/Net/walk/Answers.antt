use Rattle.std.proofs.Common.{◌∙◌, arith, rules}
use Rattle.std.proofs.lemmas.Result.{err_from_is_err_and}
use Rattle.net.proofs.Askings.{asked_refused, asked_good, placed_short, routed, some_of}
use Rattle.net.proofs.net.Net.walk.Goals as goal

pub returns-in_err-check_asked-clause-refused : goal.returns-in_err-check_asked-clause-refused
returns-in_err-check_asked-clause-refused g c =
    let p = err_from_is_err_and c.from_residual.result c.from_residual.ensures.1 in
    rw (p.1, p.2) (asked_refused _ _ _ _ _ _ c.in_err-check_asked.ensures.value)

pub returns-then-place-events-clause-refused : goal.returns-then-place-events-clause-refused
returns-then-place-events-clause-refused g c =
    let good = c.in_ok-check_asked.ensures.good in
    placed_short _ _ (omega arith) ∙ asked_good _ _ _ _ _ good.0 good.1 good.2

pub returns-clause-told : goal.returns-clause-told
returns-clause-told g c = λ k.
    let good = c.in_ok-check_asked.ensures.good in
    let found = some_of c.at-there.result.distance (search rules) in (
      routed g.K.Kind.arithmetic g.met.K.Kind.lawful g.K.Kind.amount c.args.self.now k good.2 c.args.i c.args.j c.at-there.result found.0 _ good.0 good.1 c.at-there.ensures found.1 c.walk_cells-events.ensures.walks,
      c.walk_cells-events.ensures.few,
      c.walk_cells-events.ensures.rest,
    )

use Rattle.std.proofs.Common.{Ok, ap, ◌∙◌}
use Rattle.std.proofs.lemmas.Result.{err_from_is_err_and}
use Rattle.net.proofs.Askings.{asked_refused, asked_good, held_window, held_exact}
use Rattle.net.proofs.net.Net.window.Goals as goal

pub returns-in_err-check_asked-clause-told : goal.returns-in_err-check_asked-clause-told
returns-in_err-check_asked-clause-told g c =
    let p = err_from_is_err_and c.from_residual.result c.from_residual.ensures.1 in
    rw (p.1, p.2) (λ k. asked_refused _ _ _ _ _ _ c.in_err-check_asked.ensures.value)

pub returns-clause-told : goal.returns-clause-told
returns-clause-told g c = λ k.
    let good = c.in_ok-check_asked.ensures.good in
    ap Ok (held_window g.K.Kind.arithmetic g.met.K.Kind.lawful g.K.Kind.amount c.args.self.now k good.2 g.K.Kind.minus c.args.i c.args.j c.at-there.result c.at-back.result c.opposed.result good.0 good.1 c.at-there.ensures c.at-back.ensures c.opposed.ensures)
    ∙ asked_good _ _ _ _ _ good.0 good.1 good.2

pub returns-clause-exact : goal.returns-clause-exact
returns-clause-exact g c = λ k.
    let good = c.in_ok-check_asked.ensures.good in
    held_exact g.K.Kind.arithmetic g.met.K.Kind.lawful g.K.Kind.amount c.args.self.now k good.2 g.K.Kind.minus g.met.K.Kind.inverse c.args.i c.args.j _
    (held_window g.K.Kind.arithmetic g.met.K.Kind.lawful g.K.Kind.amount c.args.self.now k good.2 g.K.Kind.minus c.args.i c.args.j c.at-there.result c.at-back.result c.opposed.result good.0 good.1 c.at-there.ensures c.at-back.ensures c.opposed.ensures)

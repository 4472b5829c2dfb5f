use Rattle.std.proofs.Common.{◌≡◌, ◌<◌, inr, sym, ◌∙◌, ⊎_elim, arith, rules}
use Rattle.std.proofs.lemmas.Bool.{cases_lt}
use Rattle.marks.specs.Sets.{has}
use Rattle.table.specs.Cells.{bounds, neighbours}
use Rattle.net.proofs.Neighbourhoods.{linked_outside}
use Rattle.net.proofs.links.neighbours.Goals as goal

pub returns : goal.returns
returns g c = λ q.
    let f = neighbours (bounds g.K.Kind.amount c.args.n c.args.cells.now) c.args.i in
    let inside : q < c.args.n → has c.of.result q ≡ f q = λ l. let told = c.of.ensures.inside q l in search rules in
    ⊎_elim inside
    (λ l. c.of.ensures.outside q l ∙ sym (linked_outside g.K.Kind.amount c.args.n c.args.i q c.args.cells.now (inr (omega arith))))
    (cases_lt q c.args.n)

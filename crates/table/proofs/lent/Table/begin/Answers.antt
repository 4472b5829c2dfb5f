use Rattle.std.proofs.Common.{◌*◌, ◌≤◌, length, ap, ◌∙◌, arith}
use Rattle.table.proofs.Tables.{clear_length}
use Rattle.table.proofs.Sizes.{first_count}
use Rattle.table.proofs.lent.Table.begin.Goals as goal

pub invariant_of-self : goal.invariant_of-self
invariant_of-self g c =
    let kept = ap length c.clear.ensures ∙ clear_length (c.args.n * c.args.n) _ in
    let first = first_count c.identity-self.result c.args.n c.identity-self.ensures in
    record { fits = rw first (omega (arith, kept, c.requires.fits)) }

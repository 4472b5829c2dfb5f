use Rattle.std.proofs.Common.{ap, ◌∙◌}
use Rattle.net.specs.State.{accepted, state}
use Rattle.net.proofs.States.{stated_ordered}
use Rattle.net.proofs.Outcomes.{rank_done}
use Rattle.net.proofs.net.Net.rank.Goals as goal

pub returns-clause-outcome : goal.returns-clause-outcome
returns-clause-outcome g c =
    let told = rw c.events-n.ensures at c.by_fewest-order.ensures in
    ap accepted (stated_ordered g.K.Kind.amount c.args.self.now.table c.arrange.new.self c.args.self.now.mode c.by_fewest-order.result told.sized c.arrange.ensures.cells c.arrange.ensures.order)
    ∙ rank_done (state g.K.Kind.amount c.args.self.now) _ told.value

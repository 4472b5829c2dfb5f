use Rattle.std.proofs.Common.{◌≡◌}
use Rattle.order.specs.Orderings.{events_of}
use Rattle.order.specs.Counted.{counts_of}
use Rattle.net.proofs.Neighbourhoods.{moved}
use Rattle.net.proofs.links.counts.Goals as goal

pub returns-clause-value : goal.returns-clause-value
returns-clause-value g c =
    let o = c.args.order.now in
    moved (λ n G. c.count_elimination.result ≡ counts_of o.count G (events_of o)) _ _ _ c.gather.ensures.sized c.gather.ensures.near c.count_elimination.ensures.value

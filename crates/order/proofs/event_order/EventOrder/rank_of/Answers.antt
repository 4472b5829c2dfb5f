-- The one place of the event, or none.
use Rattle.std.proofs.Common.{rules}
use Rattle.order.proofs.Orders.{rank_answered}
use Rattle.order.proofs.event_order.EventOrder.rank_of.Goals as goal

pub returns : goal.returns
returns c = rank_answered c.args.self.now c.args.event c.then.result c.then.ensures.variant c.then.ensures.some (λ rank p. search rules)

-- The event of the list, or none outside it.
use Rattle.std.proofs.Common.{rules}
use Rattle.order.proofs.Orders.{event_answered}
use Rattle.order.proofs.event_order.EventOrder.event_at.Goals as goal

pub returns : goal.returns
returns c = event_answered c.args.self.now c.args.rank c.then.result (search rules) c.then.ensures.some (λ event p. search rules)

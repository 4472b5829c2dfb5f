-- The list is as long as the ordering counts.
use Rattle.std.proofs.Common.{sym}
use Rattle.order.proofs.Stretches.{stretch_length}
use Rattle.order.proofs.event_order.EventOrder.count.Goals as goal

pub returns : goal.returns
returns c = sym (stretch_length c.args.self.now.events 0 c.args.self.now.count)

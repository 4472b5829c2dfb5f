-- One event more is written.
use Rattle.std.proofs.Common.{◌∙◌, arith, length-take, length-drop}
use Rattle.order.specs.Orderings.{events_of}
use Rattle.order.proofs.Orders.{events_count}
use Rattle.sheet.proofs.OrderWritten.{order_turn, order_done}
use Rattle.sheet.proofs.writing.put_ordering.Goals as goal

pub loop-rank-preserved : goal.loop-rank-preserved
loop-rank-preserved g c =
    let l = events_count c.args.net.now.table.order in
    let t = simp (length-take, length-drop) at c.loop-rank-test.true in
    let n = c.events-n.ensures in
    order_turn (events_of c.args.net.now.table.order) _ c.loop-rank.event-items c.loop-rank.rank c.event_of.result (omega arith) c.loop-rank-test.true c.loop-rank.invariant c.event_of.ensures

pub returns : goal.returns
returns g c =
    let l = events_count c.args.net.now.table.order in
    record {
      bytes = order_done c.put_head.new.out c.args.out.now (events_of c.args.net.now.table.order) c.loop-rank.event-items c.events-n.result c.args.net.now.table.order.count c.loop-rank.rank c.put_head.ensures c.events-n.ensures l c.requires.fits c.loop-rank.invariant c.loop-rank-test.false;
      long = l;
    }

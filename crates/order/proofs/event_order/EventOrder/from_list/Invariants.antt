-- The events so far have their places.
use Rattle.order.proofs.Placing.{Placed}
use Rattle.order.proofs.event_order.EventOrder.from_list.Given as goal

abbrev pub invariant-loop-k : goal.invariant-loop-k
invariant-loop-k l = Placed l.n l.list l.events l.ranks l.k

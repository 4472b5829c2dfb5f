-- Members not left to visit are joined.
use Rattle.order.proofs.Visits.{Visit}
use Rattle.order.proofs.neighbours.join.Given as goal

abbrev pub invariant-loop-event : goal.invariant-loop-event
invariant-loop-event l = Visit l.initial.near l.near l.members l.event-iterator.rest

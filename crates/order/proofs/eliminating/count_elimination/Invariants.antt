-- The events above the place are eliminated and counted.
use Rattle.order.proofs.Fills.{Telling}
use Rattle.order.proofs.eliminating.count_elimination.Given as goal

abbrev pub invariant-loop-place : goal.invariant-loop-place
invariant-loop-place l = Telling l.order.count l.initial.near l.near l.free l.order.events l.place l.width l.fill l.looks

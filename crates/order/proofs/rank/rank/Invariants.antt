-- The ranks above the place are given.
use Rattle.std.proofs.Common.{length}
use Rattle.order.proofs.Ranks.{Ranking}
use Rattle.order.proofs.rank.rank.Given as goal

abbrev pub invariant-loop-event : goal.invariant-loop-event
invariant-loop-event l = Ranking (length l.initial.near) l.initial.near l.near l.free l.events l.ranks l.place

abbrev pub decreases-loop-event : goal.decreases-loop-event
decreases-loop-event l = l.place

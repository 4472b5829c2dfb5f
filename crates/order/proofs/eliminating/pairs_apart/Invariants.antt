-- The pairs among members visited are counted.
use Rattle.order.proofs.Pairings.{Pairing}
use Rattle.order.proofs.eliminating.pairs_apart.Given as goal

abbrev pub invariant-loop-event : goal.invariant-loop-event
invariant-loop-event l = Pairing l.near l.fn.members l.event-iterator.rest l.seen l.total

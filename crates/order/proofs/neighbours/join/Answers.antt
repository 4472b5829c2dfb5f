-- One member more is joined.
use Rattle.std.proofs.Common.{◌||◌, ap, ◌∙◌, arith}
use Rattle.order.specs.Neighbours.{graph_of}
use Rattle.order.proofs.Visits.{visit_turn}
use Rattle.order.proofs.neighbours.join.Goals as goal

pub loop-event-preserved : goal.loop-event-preserved
loop-event-preserved c = visit_turn c.args.near.now c.loop-event.near c.args.members c.loop-event.event-iterator.rest c.next.new.self.rest c.union.result c.in-Some.event
    (omega (arith, c.requires c.in-Some.event (c.loop-event.invariant.members c.in-Some.event c.in-Some.ensures.steps.here))) c.in-Some.ensures.steps
    (λ j. c.union.ensures j ∙ ap (λ x. graph_of c.loop-event.near c.in-Some.event j || x) (c.without.ensures j)) c.loop-event.invariant

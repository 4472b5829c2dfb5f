-- One member more is met.
use Rattle.std.proofs.Common.{◌≡◌, rules}
use Rattle.order.proofs.Pairings.{pairing_starts, pairing_turn}
use Rattle.order.proofs.eliminating.pairs_apart.Goals as goal

pub loop-event-init : goal.loop-event-init
loop-event-init c =
    let all : c.into_iter-event-iterator.result.rest ≡ c.args.members = search rules in
    rw all (pairing_starts c.args.near.now c.args.members c.none-seen.result c.none-seen.ensures)

pub loop-event-preserved : goal.loop-event-preserved
loop-event-preserved c = pairing_turn c.args.near.now c.args.members c.loop-event.event-iterator.rest c.next.new.self.rest c.loop-event.seen c.with-seen.result c.difference.result c.loop-event.total c.count-total.result c.in-Some.event
    c.in-Some.ensures.steps c.difference.ensures c.with-seen.ensures c.count-total.ensures.value c.count-total.ensures.bounded c.loop-event.invariant

-- One event more has its place, or is the first at fault.
use Rattle.std.proofs.Common.{◌≡◌, get_or, Some, None, Ok, sym, refl, ap, ◌∙◌, arith}
use lib.ListN.{get_or-replicate}
use Rattle.order.specs.declared.event_order.Misordered.TheVariants.{Outside, Again}
use Rattle.order.specs.Orderings.{stretch}
use Rattle.order.proofs.Stretches.{stretch_same, stretch_whole}
use Rattle.order.proofs.Faults.{sound_outside, sound_again, sound_ends, arranged_by}
use Rattle.order.proofs.Placing.{placed_starts, placed_more, Permutes, placed_permutes}
use Rattle.order.proofs.event_order.EventOrder.from_list.Goals as goal

pub loop-k-init : goal.loop-k-init
loop-k-init c = placed_starts c.args.n c.args.list.now _ _ c.if-n-gt128.false c.if-list-n.false refl refl (λ e l. get_or-replicate 128 e 255 0 l)

pub loop-k-preserved : goal.loop-k-preserved
loop-k-preserved c = placed_more c.args.n c.args.list.now c.loop-k.events c.loop-k.ranks c.loop-k.k c.if-n-gt128.false (omega (arith, c.loop-k-test.true, c.if-list-n.false)) c.if-event-n.false c.if-ranks-event.false c.loop-k.invariant

pub returns-then-event-n : goal.returns-then-event-n
returns-then-event-n c = sym (arranged_by c.args.n c.args.list.now (Some Outside) c.if-n-gt128.false c.if-list-n.false
    (sound_outside c.args.n c.args.list.now c.loop-k.k (omega (arith, c.loop-k-test.true, c.if-list-n.false)) c.if-event-n.true c.loop-k.invariant.sound))

pub returns-then-ranks-event : goal.returns-then-ranks-event
returns-then-ranks-event c =
    let b = c.loop-k.invariant.back (get_or c.args.list.now c.loop-k.k 0) c.if-event-n.false c.if-ranks-event.true in
    sym (arranged_by c.args.n c.args.list.now (Some Again) c.if-n-gt128.false c.if-list-n.false
    (sound_again c.args.n c.args.list.now c.loop-k.k _ (omega (arith, c.loop-k-test.true, c.if-list-n.false)) c.if-event-n.false b.0 b.1 c.loop-k.invariant.sound))

pub invariant_of-result : goal.invariant_of-result
invariant_of-result c =
    let p : Permutes c.args.n c.loop-k.events c.loop-k.ranks = placed_permutes c.args.n c.loop-k.k c.args.list.now c.loop-k.events c.loop-k.ranks (omega (arith, c.loop-k-test.false, c.if-list-n.false)) c.loop-k.invariant in
    record { fits = c.if-n-gt128.false; events_below = p.events_below; ranks_below = p.ranks_below; there = p.there; back = p.back }

pub returns : goal.returns
returns c =
    let whole : stretch c.loop-k.events 0 c.args.n ≡ c.args.list.now =
    stretch_same c.loop-k.events c.args.list.now 0 c.args.n (λ q a b. c.loop-k.invariant.same q (omega (arith, c.loop-k-test.false)))
    ∙ ap (stretch c.args.list.now 0) (sym c.if-list-n.false) ∙ stretch_whole c.args.list.now in
    ap Ok whole ∙ sym (arranged_by c.args.n c.args.list.now None c.if-n-gt128.false c.if-list-n.false (sound_ends c.args.n c.loop-k.k c.args.list.now (omega (arith, c.loop-k-test.false, c.if-list-n.false)) c.loop-k.invariant.sound))

-- One event after the other.
use Rattle.std.proofs.Common.{take, refl, ◌∙◌, arith, drop-set-lt, length-take-le}
use Rattle.eliminator.specs.Views.{event_at}
use Rattle.closing.proofs.Telling.{rank_below, told_more}
use Rattle.closing.proofs.trail.tell.Goals as goal

pub bounds-order-rank : goal.bounds-order-rank
bounds-order-rank c = omega (arith, rank_below _ _ (take c.args.len c.args.ranks.now) c.loop-p-test.true c.requires.names, c.args.order.now.fits)

pub loop-p-preserved : goal.loop-p-preserved
loop-p-preserved c =
    let held = length-take-le c.args.len c.args.ranks.now c.requires.held in (
      told_more (event_at c.args.order.now) c.loop-p.p _ c.loop-p.place (take c.args.len c.args.ranks.now) (omega arith) c.loop-p-test.true refl c.loop-p.invariant.0,
      drop-set-lt c.args.len c.loop-p.place c.loop-p.p _ (omega arith) ∙ c.loop-p.invariant.1,
    )

-- One rank after the other, each with every lower one and itself.
use Rattle.std.proofs.Common.{◌≡◌, ℕ, length, Some, None, ap, arith}
use Rattle.order.specs.declared.event_order.EventOrder.{EventOrder}
use Rattle.eliminator.specs.Views.{seen}
use Rattle.eliminator.specs.Members.{Among}
use Rattle.eliminator.proofs.Viewing.{same_start, same_then, same_count}
use Rattle.sweeper.specs.Best.{Settles, Paired}
use Rattle.sweeper.proofs.Bests.{same_self, same_more, done_start, done_row, done_next, paired_as}
use Rattle.sweeper.proofs.Summing.{summed}
use Rattle.sweeper.proofs.sweep.sweep.Goals as goal

pub loop-k-init : goal.loop-k-init
loop-k-init g c = (same_start c.args.table.now, same_self _ (seen c.args.table.now), done_start _ _ _)

pub loop-i-init : goal.loop-i-init
loop-i-init g c = (c.loop-k.invariant.0, same_self _ (seen c.loop-k.table), λ us s m d. d)

pub sweep_pair-requires : goal.sweep_pair-requires
sweep_pair-requires g c =
    let n = ap (λ (o : EventOrder). o.count) c.loop-i.invariant.0.order in
    record { within = omega (arith, c.loop-k-test.true); low = c.loop-i-test.true; members = λ t h. c.lower-mine.ensures.members _ (c.listed-ranks.ensures.member t h) }

pub settle-requires : goal.settle-requires
settle-requires g c =
    let n = ap (λ (o : EventOrder). o.count) c.loop-i.invariant.0.order in
    record { row = omega (arith, c.loop-k-test.true); column = omega (arith, c.loop-k-test.true) }

pub loop-i-preserved : goal.loop-i-preserved
loop-i-preserved g c =
    let m = g.K.Kind in
    let i = c.loop-i.invariant in
    let ranks = c.listed-ranks.result.now in
    let xs = seen c.loop-k.table in
    let ys = seen c.loop-i.table in
    let zs = seen c.sweep_pair.new.table in
    let pair = same_count (λ (n : ℕ). Paired m.arithmetic m.amount n c.loop-k.k c.loop-i.i (Among ranks (length ranks)) ys zs) i.0 c.sweep_pair.ensures.paired in (
      same_then i.0 c.sweep_pair.ensures.kept,
      same_more _ xs ys zs i.1 pair.work,
      λ us s near d. done_next _ us c.loop-k.k c.loop-i.i c.args.near.now c.lower-mine.result ys _ c.loop-i-test.true c.loop-k-test.true c.lower-mine.ensures near (same_more _ us xs ys s i.1) (paired_as _ _ _ _ c.lower-mine.result _ _ _ c.listed-ranks.ensures pair) (i.2 us s near d),
    )

pub loop-k-preserved : goal.loop-k-preserved
loop-k-preserved g c =
    let e : c.loop-i.i ≡ c.loop-k.k = omega arith in
    let k = c.loop-k.invariant in
    let i = c.loop-i.invariant in
    let us = seen c.args.table.now in
    let xs = seen c.loop-k.table in
    let ys = seen c.loop-i.table in
    let zs = seen c.settle.new.table in
    let itself = same_count (λ (n : ℕ). Settles n c.loop-k.k c.loop-k.k (record { sum = Some c.zero.result; by = None }) ys zs) i.0 c.settle.ensures.settles in (
      same_then i.0 c.settle.ensures.kept,
      same_more _ us ys zs (same_more _ us xs ys k.1 i.1) itself.work,
      done_row _ us c.loop-k.k c.loop-i.i ys _ c.zero.result e c.loop-k-test.true c.zero.ensures itself (i.2 us k.1 c.requires.near k.2),
    )

pub returns : goal.returns
returns g c =
    let e : c.loop-k.k ≡ c.args.table.now.order.count = omega arith in
    let k = c.loop-k.invariant in
    record { kept = k.0; swept = record { work = k.1; summed = summed g.K.Kind.amount g.met.K.Kind.amounts _ c.args.table.now.order.fits _ _ (rw e at k.2) } }

-- One event more is eliminated.
use Rattle.std.proofs.Common.{◌≡◌, max, refl, arith, rules}
use Rattle.order.proofs.Fills.{telling_starts, telling_turn, telling_width, telling_within, telling_ends, told_all, told_after, told_bounded}
use Rattle.order.proofs.Ranks.{lower_free}
use Rattle.order.proofs.eliminating.count_elimination.Goals as goal

pub loop-place-init : goal.loop-place-init
loop-place-init c = telling_starts c.args.order.now.count c.args.near.now c.all_below-free.result c.args.order.now.events c.requires c.all_below-free.ensures

pub loop-place-preserved : goal.loop-place-preserved
loop-place-preserved c =
    let wider : c.max-width.result ≡ max c.loop-place.width c.count-degree.result = search rules in
    telling_width _ _ _ _ _ _ _ _ _ _ wider
    (telling_turn c.args.order.now.count c.args.near.now c.loop-place.near c.join.new.near c.loop-place.free c.without-free.result c.intersection-lower.result c.args.order.now.events c.loop-place.place _ c.count-degree.result c.pairs_apart-fill.result c.loop-place.width c.loop-place.fill c.loop-place.looks
    c.args.order.now.fits (omega arith) refl c.loop-place.invariant c.join.auto.near c.join.ensures c.intersection-lower.ensures c.without-free.ensures
    c.count-degree.ensures.value c.count-degree.ensures.bounded c.pairs_apart-fill.ensures.value c.pairs_apart-fill.ensures.bounded)

pub returns : goal.returns
returns c =
    let k = telling_ends c.args.order.now.count c.args.near.now c.loop-place.near c.loop-place.free c.args.order.now.events c.loop-place.place c.loop-place.width c.loop-place.fill c.loop-place.looks c.loop-place-test.false c.loop-place.invariant in
    record { value = told_all _ _ _ _ _ _ _ _ k; bounded = told_bounded _ _ _ _ _ _ _ _ k; ended = told_after _ _ _ _ _ _ _ _ k }

pub pairs_apart-fill-requires : goal.pairs_apart-fill-requires
pairs_apart-fill-requires c q h = telling_within _ _ _ _ _ _ _ _ _ c.loop-place.invariant q
    (lower_free c.loop-place.near c.loop-place.free c.without-free.result c.intersection-lower.result _ c.intersection-lower.ensures c.without-free.ensures q h)

pub join-requires : goal.join-requires
join-requires c q h = telling_within _ _ _ _ _ _ _ _ _ c.loop-place.invariant q
    (lower_free c.loop-place.near c.loop-place.free c.without-free.result c.intersection-lower.result _ c.intersection-lower.ensures c.without-free.ensures q h)

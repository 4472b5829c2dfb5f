-- One rank more is given.
use Rattle.std.proofs.Common.{◌≡◌, length, refl, subst, arith}
use Rattle.order.specs.Orderings.{stretch}
use Rattle.order.specs.Neighbours.{graph_of, Chosen}
use Rattle.order.specs.Ranking.{Ranked}
use Rattle.order.proofs.Placing.{Permutes, permutes}
use Rattle.order.proofs.Ranks.{ranking_starts, ranking_more, ranking_turn, ranking_ends, ranking_within, lower_free, whole, whole_after}
use Rattle.order.proofs.Computed.{computed_whole}
use Rattle.order.proofs.rank.rank.Goals as goal

pub loop-event-init : goal.loop-event-init
loop-event-init c = ranking_starts (length c.args.near.now) c.args.near.now c.all_below-free.result _ _ refl refl refl c.all_below-free.ensures

pub fewest-requires : goal.fewest-requires
fewest-requires c = ranking_within _ _ _ _ _ _ _ c.loop-event.invariant

pub overflow_sub-place : goal.overflow_sub-place
overflow_sub-place c = ranking_more _ _ _ _ _ _ _ _ c.loop-event.invariant (subst (λ n. Chosen c.loop-event.near c.loop-event.free n c.in-Some.event) c.loop-event.auto.near c.in-Some.ensures.chosen)

pub join-requires : goal.join-requires
join-requires c q h = ranking_within _ _ _ _ _ _ _ c.loop-event.invariant q
    (lower_free c.loop-event.near c.loop-event.free c.without-free.result c.intersection-lower.result c.in-Some.event c.intersection-lower.ensures c.without-free.ensures q h)

pub loop-event-smaller : goal.loop-event-smaller
loop-event-smaller c = omega (arith, ranking_more _ _ _ _ _ _ _ _ c.loop-event.invariant (subst (λ n. Chosen c.loop-event.near c.loop-event.free n c.in-Some.event) c.loop-event.auto.near c.in-Some.ensures.chosen))

pub loop-event-preserved : goal.loop-event-preserved
loop-event-preserved c =
    ranking_turn (length c.args.near.now) c.args.near.now c.loop-event.near c.join.new.near c.loop-event.free c.without-free.result c.intersection-lower.result c.loop-event.events c.loop-event.ranks c.loop-event.place c.in-Some.event
    c.requires c.loop-event.invariant (subst (λ n. Chosen c.loop-event.near c.loop-event.free n c.in-Some.event) c.loop-event.auto.near c.in-Some.ensures.chosen)
    c.join.auto.near c.join.ensures c.intersection-lower.ensures c.without-free.ensures

ended : (c : goal.In_default) → c.loop-event.place ≡ 0
ended c = ranking_ends _ _ _ _ _ _ _ c.loop-event.invariant c.in_default.ensures.chosen

pub invariant_of-result : goal.invariant_of-result
invariant_of-result c =
    let p : Permutes (length c.args.near.now) c.loop-event.events c.loop-event.ranks =
    permutes (length c.args.near.now) c.loop-event.events c.loop-event.ranks (λ r l. c.loop-event.invariant.within r (omega (arith, ended c)) l) (λ r l. c.loop-event.invariant.there r (omega (arith, ended c)) l) in
    record { fits = c.requires; events_below = p.events_below; ranks_below = p.ranks_below; there = p.there; back = p.back }

pub returns : goal.returns
returns c =
    let n = length c.args.near.now in
    let done : c.loop-event.place ≡ 0 = ranking_ends _ _ _ _ _ _ _ c.loop-event.invariant c.in_default.ensures.chosen in
    let r : Ranked n (graph_of c.args.near.now) (stretch c.loop-event.events 0 n) =
    whole n (graph_of c.args.near.now) c.loop-event.events c.loop-event.place done c.loop-event.invariant.ranked in
    record {
      value = computed_whole n (graph_of c.args.near.now) c.loop-event.events r;
      ruled = r;
      ended = whole_after n (graph_of c.args.near.now) (graph_of c.loop-event.near) c.loop-event.events c.loop-event.place done c.loop-event.invariant.near;
    }

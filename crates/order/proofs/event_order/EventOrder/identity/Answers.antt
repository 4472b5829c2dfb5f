-- Each number at its own place.
use Rattle.std.proofs.Common.{◌≡◌, ℕ, ◌<◌, ◌∙◌, ap, get_or, arith, rules}
use Rattle.order.proofs.Stretches.{stretch_numbers}
use Rattle.order.proofs.event_order.EventOrder.identity.Goals as goal
use Rattle.order.proofs.event_order.EventOrder.identity.Goals.{After-from_fn-places}

own_place : (c : After-from_fn-places) (q : ℕ) → q < 128 → get_or c.from_fn-places.result q 0 ≡ q
own_place c q l = let k = c.from_fn-places.ensures.items.at q 0 l in search rules

pub invariant_of-result : goal.invariant_of-result
invariant_of-result c =
    let n = c.args.n in
    let at : (q : ℕ) → q < n → get_or c.from_fn-places.result q 0 ≡ q = λ q l. own_place c q (omega (arith, c.requires)) in
    record {
      fits = c.requires;
      events_below = λ q l. omega (arith, at q l);
      ranks_below = λ q l. omega (arith, at q l);
      there = λ q l. ap (λ x. get_or c.from_fn-places.result x 0) (at q l) ∙ at q l;
      back = λ q l. ap (λ x. get_or c.from_fn-places.result x 0) (at q l) ∙ at q l;
    }

pub returns : goal.returns
returns c = stretch_numbers c.from_fn-places.result 0 c.args.n (λ q a b. own_place (goal.at.returns c).After-from_fn-places q (omega (arith, c.requires)))

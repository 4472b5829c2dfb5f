-- What an ordering holds, said of its list of events.
use Rattle.std.proofs.Common.{◌≡◌, ℕ, ◌+◌, ◌-◌, ◌<◌, ◌≤◌, ◌&&◌, true, ltb, leb, length, get_or, Option, Some, None, is_some, IfSome, sym, ap, ◌∙◌, subst, arith}
use Rattle.std.proofs.lemmas.Bool.{cond-true, cond-false, ltb-true, ltb-false, leb-true, and_parts}
use Rattle.order.specs.declared.event_order.EventOrder.{EventOrder}
use Rattle.order.specs.Orderings.{events_of, event_of_rank, rank_of_event}
use Rattle.order.proofs.Stretches.{stretch_length, stretch_at, rank_there, rank_nowhere}

-- its list has as many events as it counts, and the event of a place is the list's
pub events_count : (o : EventOrder) → length (events_of o) ≡ o.count
events_count o = stretch_length o.events 0 o.count

pub events_at : (o : EventOrder) (place : ℕ) → place < o.count → get_or (events_of o) place 0 ≡ get_or o.events place 0
events_at o place l = stretch_at o.events 0 o.count place l ∙ ap (λ x. get_or o.events x 0) (omega arith)

-- each event of the list is one of the n, none stands twice, and each of the n stands in it
pub events_within : (o : EventOrder) (place : ℕ) → place < o.count → get_or (events_of o) place 0 < o.count
events_within o place l = subst (λ x. x < o.count) (sym (events_at o place l)) (o.events_below place l)

pub events_differ : (o : EventOrder) (p q : ℕ) → p < o.count → q < o.count → get_or (events_of o) p 0 ≡ get_or (events_of o) q 0 → p ≡ q
events_differ o p q a b e = sym (o.there p a) ∙ ap (λ x. get_or o.ranks x 0) (sym (events_at o p a) ∙ e ∙ events_at o q b) ∙ o.there q b

-- what is there exactly for the ranks of the ordering, and is then the event of that rank's place, is the event of the rank
pub event_answered : (o : EventOrder) (rank : ℕ) (r : Option ℕ) {P : ℕ → Type 0} → is_some r ≡ (ltb 0 rank && leb rank o.count) → IfSome r P
    → ((event : ℕ) → P event → event ≡ get_or o.events (rank - 1) 0) → r ≡ event_of_rank (events_of o) rank
event_answered o rank (Some event) e p f =
    let known : (ltb 0 rank && leb rank o.count) ≡ true = sym e in
    let parts = and_parts _ _ known in
    let low : 0 < rank = ltb-true 0 rank parts.0 in
    let high : rank ≤ o.count = leb-true rank o.count parts.1 in
    ap Some (f event p ∙ sym (events_at o (rank - 1) (omega arith)))
    ∙ sym (cond-true (ltb 0 rank && leb rank (length (events_of o))) _ _ (ap (λ n. ltb 0 rank && leb rank n) (events_count o) ∙ known))
event_answered o rank None e _ _ = sym (cond-false (ltb 0 rank && leb rank (length (events_of o))) _ _ (ap (λ n. ltb 0 rank && leb rank n) (events_count o) ∙ sym e))

pub rank_told : (o : EventOrder) (event : ℕ) → event < o.count → rank_of_event (events_of o) event ≡ Some (get_or o.ranks event 0 + 1)
rank_told o event l = rank_there o.events 0 o.count (get_or o.ranks event 0) event (omega arith) (subst (λ n. get_or o.ranks event 0 < n) (omega arith) (o.ranks_below event l)) (o.back event l)
    (λ p a b e. let s : get_or o.ranks event 0 ≡ p = ap (λ x. get_or o.ranks x 0) (sym e) ∙ o.there p (omega (arith, o.ranks_below event l)) in omega arith)
    ∙ ap Some (omega arith)

pub rank_none : (o : EventOrder) (event : ℕ) → o.count ≤ event → rank_of_event (events_of o) event ≡ None
rank_none o event l = rank_nowhere o.events 0 o.count event (λ p a b e. omega (arith, o.events_below p (omega arith)))

-- what is there exactly for an event of the ordering, and is then one more than its place, is the rank of the event
pub rank_answered : (o : EventOrder) (event : ℕ) (r : Option ℕ) {P : ℕ → Type 0} → is_some r ≡ ltb event o.count → IfSome r P
    → ((rank : ℕ) → P rank → rank ≡ get_or o.ranks event 0 + 1) → r ≡ rank_of_event (events_of o) event
rank_answered o event (Some rank) e p f = ap Some (f rank p) ∙ sym (rank_told o event (ltb-true event o.count (sym e)))
rank_answered o event None e _ _ = sym (rank_none o event (ltb-false event o.count (sym e)))

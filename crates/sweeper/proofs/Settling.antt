-- A distance written in place.
use Rattle.std.proofs.Common.{◌≡◌, ℕ, ◌+◌, ◌*◌, ◌<◌, ◌≤◌, List, length, get_or, set, sym, ap, ◌∙◌, arith, get_or-set_same}
use Rattle.std.proofs.lemmas.List.{get_or_read, set-set}
use Rattle.order.specs.declared.event_order.EventOrder.{EventOrder}
use Rattle.table.specs.declared.cell.Cell.{Cell}
use Rattle.table.specs.Cells.{empty}
use Rattle.eliminator.specs.Views.{event_at, view}
use Rattle.eliminator.proofs.Viewing.{view_is, written}
use Rattle.sweeper.specs.declared.least.Least.{Least}
use Rattle.sweeper.specs.Best.{Settles}
use Rattle.sweeper.proofs.Bests.{settled}

-- the sum first, then the rank
abbrev pub first_write : {K : Type 0} → Least K → Cell K → Cell K
first_write least c = record { bound = c.bound; worked = c.worked; via = c.via; distance = least.sum; by = c.by }

abbrev pub second_write : {K : Type 0} → Least K → Cell K → Cell K
second_write least c = record { bound = c.bound; worked = c.worked; via = c.via; distance = c.distance; by = least.by }

abbrev pub both_writes : {K : Type 0} → Least K → Cell K → Cell K
both_writes least c = record { bound = c.bound; worked = c.worked; via = c.via; distance = least.sum; by = least.by }

pub settled_in_place : {K : Type 0} (order : EventOrder) (xs : List (Cell K)) (r s p : ℕ) (least : Least K) (a b : Cell K) → order.count * order.count ≤ length xs → r < order.count → s < order.count → p ≡ event_at order r * order.count + event_at order s → p < order.count * order.count →
    a ≡ get_or xs p a →
    Settles order.count r s least (view order xs) (view order (set (set xs p (first_write least (get_or xs p a))) p (second_write least (get_or (set xs p (first_write least (get_or xs p a))) p b))))
settled_in_place {K} order xs r s p least a b fits hr hs e below is =
    let within : p < length xs = omega arith in
    let old : a ≡ view order xs r s = get_or_read xs p a within is empty ∙ ap (λ (q : ℕ). get_or xs q empty) e ∙ sym (view_is order xs r s) in
    let v : Cell K = first_write least (get_or xs p a) in
    let w : Cell K = second_write least (get_or (set xs p v) p b) in
    let new : w ≡ both_writes least a = ap (second_write least) (get_or-set_same xs p v b within) ∙ ap (both_writes least) (sym is) in
    settled order.count r s least a w (view order xs) (view order (set (set xs p v) p w)) old new
    (written order xs (set (set xs p v) p w) r s w fits hr hs (set-set xs p v w ∙ ap (λ (q : ℕ). set xs q w) e))

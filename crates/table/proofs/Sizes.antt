-- How many events an ordering has.
use Rattle.std.proofs.Common.{◌≡◌, ℕ, zero, suc, length, sym, refl, ap, ◌∙◌}
use Rattle.order.specs.declared.event_order.EventOrder.{EventOrder}
use Rattle.order.specs.Orderings.{events_of, upto, numbers}
use Rattle.order.proofs.Orders.{events_count}

numbers_length : (k m : ℕ) → length (numbers k m) ≡ m
unfolding numbers
numbers_length k zero = refl
numbers_length k (suc m) = ap suc (numbers_length (suc k) m)

pub first_count : (order : EventOrder) (n : ℕ) → events_of order ≡ upto n → order.count ≡ n
first_count order n e = sym (events_count order) ∙ ap length e ∙ numbers_length 0 n

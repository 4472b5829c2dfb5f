-- What each change of a table makes of the state of its net.
use Rattle.std.proofs.Common.{◌≡◌, ℕ, ◌+◌, ◌*◌, ◌<◌, List, set, ℤ, refl, ap, ◌∙◌, ap₂}
use Rattle.table.specs.declared.cell.Cell.{Cell}
use Rattle.table.specs.declared.lent.Table.{Table}
use Rattle.table.specs.Cells.{cleared, amount_of, bounds}
use Rattle.table.proofs.Sizes.{first_count}
use Rattle.order.specs.declared.event_order.EventOrder.{EventOrder}
use Rattle.order.specs.Orderings.{events_of, upto, numbers}
use Rattle.net.specs.declared.mode.Mode.{Mode}
use Rattle.net.specs.declared.mode.Mode.TheVariants.{Open}
use Rattle.net.specs.State.{State, made, fresh, rebound, reordered}
use Rattle.net.specs.Closing.{in_mode}
use Rattle.net.proofs.BoundsHeld.{bounds_cleared, bounds_put}

-- the state of a net over this ordering and these cells
abbrev pub stated : {K : Type 0} → (K → List ℤ) → EventOrder → List (Cell K) → Mode → State
stated amount order cells mode = record { events = order.count; bounds = bounds amount order.count cells; order = events_of order; mode = mode }

module _ {K : Type 0} (amount : K → List ℤ) where
  pub stated_fresh : (n : ℕ) (order : EventOrder) (xs ys : List (Cell K)) → events_of order ≡ upto n → ys ≡ cleared (n * n) xs → stated amount order ys Open ≡ fresh n
  stated_fresh n order xs ys f e =
      let count = first_count order n f in
      let none = ap₂ (bounds amount) count e ∙ bounds_cleared amount n xs in
      cc

  pub stated_made : (order : EventOrder) (xs : List (Cell K)) → events_of order ≡ upto 0 → stated amount order xs Open ≡ made
  unfolding numbers
  stated_made order xs f = stated_fresh 0 order xs xs f refl

  -- the cell of one pair written
  pub stated_put : (t u : Table K) (mode : Mode) (i j : ℕ) (c : Cell K) → i < t.order.count → j < t.order.count → u.cells.now ≡ set t.cells.now (i * t.order.count + j) c → u.order ≡ t.order →
      stated amount u.order u.cells.now Open ≡ rebound (stated amount t.order t.cells.now mode) i j (amount_of amount c.bound)
  stated_put t u mode i j c p q e o =
      ap₂ (λ z ys. stated amount z ys Open) o e
      ∙ ap (λ F. record { events = t.order.count; bounds = F; order = events_of t.order; mode = Open }) (bounds_put amount t.order.count t.cells.now i j c p q t.fits)

  -- another ordering of the same events
  pub stated_ordered : (t u : Table K) (mode : Mode) (order : EventOrder) → order.count ≡ t.order.count → u.cells.now ≡ t.cells.now → u.order ≡ order →
      stated amount u.order u.cells.now Open ≡ reordered (stated amount t.order t.cells.now mode) (events_of order)
  stated_ordered t u mode order c e o =
      ap₂ (λ z ys. stated amount z ys Open) o e
      ∙ ap (λ n. record { events = n; bounds = bounds amount n t.cells.now; order = events_of order; mode = Open }) c

  -- other cells of the same bounds
  pub stated_closed : (order after : EventOrder) (xs ys : List (Cell K)) (mode then : Mode) → after ≡ order → bounds amount order.count ys ≡ bounds amount order.count xs →
      stated amount after ys then ≡ in_mode then (stated amount order xs mode)
  stated_closed order after xs ys mode then o same =
      ap (λ z. stated amount z ys then) o
      ∙ ap (λ F. record { events = order.count; bounds = F; order = events_of order; mode = then }) same

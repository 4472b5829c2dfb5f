-- What a closed table holds, and what closing comes to, in the words of walks and distances.
use Rattle.std.specs.Prelude.{◌≡◌, ℕ, ◌^◌, ◌<◌, ◌≤◌, false, ◌≢◌, ◌⊎◌, List, take, drop, ℤ, Some, Ok, Err, Result}
use Rattle.kinds.specs.Arithmetic.{Arithmetic, Lawful}
use Rattle.order.specs.declared.event_order.EventOrder.{EventOrder}
use Rattle.table.specs.declared.cell.Cell.{Cell}
use Rattle.table.specs.Cells.{at_cell, amount_of, bounds}
use Rattle.walks.specs.Bounds.{InForce, Within, Apart, Sized}
use Rattle.walks.specs.Walks.{Route, Loop}
use Rattle.walks.specs.Least.{distance, contradictory}
use Rattle.eliminator.specs.Views.{view}
use Rattle.eliminator.specs.State.{Traced}
use Rattle.sweeper.specs.Sums.{leasts, Led}
use Rattle.closing.specs.declared.close.Contradiction.{Contradiction}

-- a table that is closed: no contradiction, every distance, and the traces of the walks behind them
pub record Holds {K : Type 0} (A : Arithmetic) (amount : K → List ℤ) (order : EventOrder) (cells : List (Cell K)) : Type 0 where
  pub calm : contradictory A order.count (bounds amount order.count cells) ≡ false
  pub distances : (i j : ℕ) → i < order.count → j < order.count → amount_of amount (at_cell order.count cells i j).distance ≡ distance A order.count (bounds amount order.count cells) i j
  -- no number overruns: worked bounds and distances are sums of walks that name no event twice
  pub small : (i j : ℕ) (b : K) → i < order.count → j < order.count → i ≢ j → ((at_cell order.count cells i j).worked ≡ Some b) ⊎ ((at_cell order.count cells i j).distance ≡ Some b) → A.size (amount b) < 2 ^ 47
  pub traced : Traced A amount order.count 0 (view order cells)
  pub led : Led A amount order.count (view order cells) (leasts (view order cells))

-- closed, or the loop of a contradiction in the place
abbrev pub Closes : {K : Type 0} → (A : Arithmetic) → (K → List ℤ) → EventOrder → List (Cell K) → List (Cell K) → List ℕ → Result (Unit {0}) Contradiction → Type 0
Closes A amount order before after place (Ok _) = (contradictory A order.count (bounds amount order.count before) ≡ false) × Holds A amount order after
Closes A amount order before after place (Err c) = Loop A (InForce (bounds amount order.count before)) (take c.shown place)

-- for bounds in force that a net accepts
abbrev pub Ends : {K : Type 0} → (A : Arithmetic) → (K → List ℤ) → EventOrder → List (Cell K) → List (Cell K) → List ℕ → Result (Unit {0}) Contradiction → Type 0
Ends A amount order before after place r =
    Lawful A → Within A order.count (bounds amount order.count before) → Apart (bounds amount order.count before) → Sized A (2 ^ 40) (bounds amount order.count before) → Closes A amount order before after place r

-- the place is as it was behind what was written
abbrev pub Untouched : ℕ → List ℕ → List ℕ → Result (Unit {0}) Contradiction → Type 0
Untouched n before after (Ok _) = after ≡ before
Untouched n before after (Err c) = (c.shown ≤ n) × (drop c.shown after ≡ drop c.shown before)

-- a walk of least sum, where a closed table has one
abbrev pub Walks : {K : Type 0} → (A : Arithmetic) → (K → List ℤ) → EventOrder → List (Cell K) → ℕ → ℕ → List ℕ → Type 0
Walks {K} A amount order cells i j events =
    Lawful A → Holds A amount order cells → (d : K) → (at_cell order.count cells i j).distance ≡ Some d → Route A (InForce (bounds amount order.count cells)) i j events (amount d)

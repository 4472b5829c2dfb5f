-- The least of the distances to an event, as a table holds them.
use Rattle.std.specs.Prelude.{◌≡◌, ℕ, ◌<◌, List, ℤ, Some, Option}
use Rattle.std.specs.List.{slice_get}
use Rattle.kinds.specs.Arithmetic.{Arithmetic}
use Rattle.table.specs.declared.cell.Cell.{Cell}
use Rattle.table.specs.Cells.{at_cell, amount_of}
use Rattle.walks.specs.Least.{least}

-- the distances to j, from each event
abbrev pub column : {K : Type 0} → (K → List ℤ) → ℕ → List (Cell K) → ℕ → ℕ → Option (List ℤ)
column amount n cells j i = amount_of amount (at_cell n cells i j).distance

-- the first m places hold the least of each column, where it has one
abbrev pub Earliest : {K : Type 0} → Arithmetic → (K → List ℤ) → ℕ → List (Cell K) → ℕ → List K → Type 0
Earliest A amount n cells m place = (j : ℕ) (t : List ℤ) → j < m → least A n (column amount n cells j) ≡ Some t → amount_of amount (slice_get place j) ≡ Some t

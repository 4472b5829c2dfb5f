-- A table of n rows of n cells in one list, and the bounds in force that it holds.
use Rattle.std.specs.Prelude.{ℕ, zero, suc, ◌+◌, ◌*◌, Bool, not, ◌&&◌, ◌||◌, List, [], ◌∷◌, ℤ, is_some, Some, None, Option, ◌==◌, nat_lt, slice_index_or}
use Rattle.kinds.specs.Answers.{pick}
use Rattle.table.specs.declared.cell.Cell.{Cell}

-- a cell that holds nothing
abbrev pub empty : {K : Type 0} → Cell K
empty = record { bound = None; worked = None; distance = None; via = None; by = None }

-- the cell of the pair (i, j)
abbrev pub at_cell : {K : Type 0} → ℕ → List (Cell K) → ℕ → ℕ → Cell K
at_cell n xs i j = slice_index_or xs (i * n + j) empty

-- the table with its first m cells empty
abbrev pub cleared : {K : Type 0} → ℕ → List (Cell K) → List (Cell K)
cleared zero xs = xs
cleared (suc m) [] = []
cleared (suc m) (x ∷ xs) = empty ∷ cleared m xs

-- the bound in force of a cell
abbrev pub in_force : {K : Type 0} → Cell K → Option K
in_force c = c.bound

-- the amount that an optional bound stands for
abbrev pub amount_of : {K : Type 0} → (K → List ℤ) → Option K → Option (List ℤ)
amount_of amount None = None
amount_of amount (Some x) = Some (amount x)

-- the amount of the bound in force from i to j; none outside the n events
abbrev pub bounds : {K : Type 0} → (K → List ℤ) → ℕ → List (Cell K) → ℕ → ℕ → Option (List ℤ)
bounds amount n xs i j = pick (nat_lt i n && nat_lt j n) (amount_of amount (in_force (at_cell n xs i j))) None

-- two different events with a bound in force in either direction are neighbours
abbrev pub neighbours : (ℕ → ℕ → Option (List ℤ)) → ℕ → ℕ → Bool
neighbours F i j = not (i == j) && (is_some (F i j) || is_some (F j i))

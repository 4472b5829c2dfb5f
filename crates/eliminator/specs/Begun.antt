-- The cells as closing begins.
use Rattle.std.specs.Prelude.{◌≡◌, ℕ, ◌<◌, None}
use Rattle.table.specs.declared.cell.Cell.{Cell}
use Rattle.eliminator.specs.Views.{Grid}

-- a cell whose worked bound is its bound in force
abbrev pub begun : {K : Type 0} → Cell K → Cell K
begun c = record { bound = c.bound; worked = c.bound; distance = None; via = None; by = None }

abbrev pub Begun : {K : Type 0} → ℕ → Grid K → Grid K → Type 0
Begun n xs ys = (i j : ℕ) → i < n → j < n → ys i j ≡ begun (xs i j)

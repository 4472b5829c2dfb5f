-- The cells before the index are begun, and those from it on as they were.
use Rattle.std.proofs.Common.{◌≡◌, ℕ, ◌<◌, ◌≤◌, get_or}
use Rattle.table.specs.Cells.{empty}
use Rattle.eliminator.specs.Begun.{begun}
use Rattle.eliminator.proofs.start.begin.Given as goal

abbrev pub invariant-loop-cell : goal.invariant-loop-cell
invariant-loop-cell g l =
    ((q : ℕ) → q < l.cell-index → get_or l.cell-items q empty ≡ begun (get_or l.initial.cell-items q empty))
    × ((q : ℕ) → l.cell-index ≤ q → get_or l.cell-items q empty ≡ get_or l.initial.cell-items q empty)

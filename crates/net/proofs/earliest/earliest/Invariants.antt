-- The least of the distances met so far.
use Rattle.std.proofs.Common.{◌≡◌}
use Rattle.table.specs.Cells.{amount_of}
use Rattle.walks.specs.Least.{least}
use Rattle.net.specs.Times.{column}
use Rattle.net.proofs.earliest.earliest.Given as goal

abbrev pub invariant-loop-i : goal.invariant-loop-i
invariant-loop-i g l = amount_of g.K.Kind.amount l.best ≡ least g.K.Kind.arithmetic l.i (column g.K.Kind.amount l.n l.cells l.j)

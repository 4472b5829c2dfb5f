-- The sets of the events met so far are their neighbours.
use Rattle.std.proofs.Common.{◌≡◌, ℕ, ◌<◌}
use Rattle.order.specs.Neighbours.{graph_of}
use Rattle.table.specs.Cells.{bounds, neighbours}
use Rattle.net.proofs.links.gather.Given as goal

abbrev pub invariant-loop-i : goal.invariant-loop-i
invariant-loop-i g l = (p j : ℕ) → p < l.i → graph_of l.near p j ≡ neighbours (bounds g.K.Kind.amount l.n l.cells) p j

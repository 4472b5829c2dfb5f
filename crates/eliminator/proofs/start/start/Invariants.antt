-- The marks of the ranks below r are set.
use Rattle.std.proofs.Common.{ℕ, ◌<◌}
use Rattle.marks.specs.Sets.{has}
use Rattle.eliminator.specs.Views.{seen}
use Rattle.eliminator.specs.Steps.{marked, Touching}
use Rattle.eliminator.proofs.start.start.Given as goal

abbrev pub invariant-loop-r : goal.invariant-loop-r
invariant-loop-r g l = (i s : ℕ) → i < l.r → s < l.table.order.count → Touching (seen l.table) i s (has (marked l.marks-items i) s)

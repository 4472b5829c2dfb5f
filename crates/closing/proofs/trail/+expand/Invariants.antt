-- The higher of the two ranks rises.
use Rattle.std.proofs.Common.{◌-◌, max}
use Rattle.closing.proofs.trail.+expand.Given as goal

abbrev pub decreases-expand : goal.decreases-expand
decreases-expand g l = l.order.now.count - max l.i l.j

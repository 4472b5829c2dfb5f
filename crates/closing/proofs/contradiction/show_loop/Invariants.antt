-- The row has come to x, and from there a worked bound leads back to i.
use Rattle.std.proofs.Common.{◌-◌, ◌<◌, ◌≤◌, length, take}
use Rattle.eliminator.specs.Views.{view}
use Rattle.closing.specs.Trace.{Names, Partway}
use Rattle.closing.proofs.contradiction.show_loop.Given as goal

abbrev pub invariant-loop-v : goal.invariant-loop-v
invariant-loop-v g l =
    let m = g.K.Kind in
    (l.x < l.order.count) × (l.k ≤ l.x) × (l.len ≤ length l.out) × Names l.order.count (take l.len l.out) × Partway m.arithmetic m.amount l.order.count (view l.order l.cells) l.i l.k l.x (take l.len l.out)

abbrev pub decreases-loop-v : goal.decreases-loop-v
decreases-loop-v g l = l.order.count - l.x

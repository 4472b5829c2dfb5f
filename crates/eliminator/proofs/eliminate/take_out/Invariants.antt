-- The rows that wait no more are relaxed, and their marks joined.
use Rattle.std.proofs.Common.{◌≡◌, true}
use Rattle.marks.specs.Sets.{has}
use Rattle.eliminator.specs.Views.{Same, seen}
use Rattle.eliminator.specs.Steps.{Part, Joined}
use Rattle.eliminator.proofs.Visiting.{Seen, Waits}
use Rattle.eliminator.proofs.eliminate.take_out.Given as goal

abbrev pub invariant-loop-i : goal.invariant-loop-i
invariant-loop-i g l =
    let m = g.K.Kind in
    let rest = l.i-iterator.rest in
    Same l.initial.table l.table × Waits l.mine rest
    × Part m.arithmetic m.amount l.initial.table.order.count l.k (Seen l.mine rest) (λ q. has l.mine q ≡ true) (seen l.initial.table) (seen l.table)
    × Joined (Seen l.mine rest) l.mine l.initial.near l.near

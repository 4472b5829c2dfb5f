-- The least over the ranks before the index.
use Rattle.std.proofs.Common.{ℕ, Option}
use Rattle.eliminator.specs.Members.{Among}
use Rattle.sweeper.specs.Best.{Best, Tells}
use Rattle.sweeper.proofs.best.best.Given as goal

abbrev pub invariant-loop-rank : goal.invariant-loop-rank
invariant-loop-rank g l =
    let m = g.K.Kind in
    let K = g.row.K.Denot in
    (front back : ℕ → Option K) → Tells (goal.F-post g l.parts) l.ranks front back → Best m.arithmetic m.amount (Among l.ranks l.rank-index) l.skip l.fn.direct front back (record { sum = l.sum; by = l.by })

-- The members that wait no more bear.
use Rattle.std.proofs.Common.{ℕ}
use Rattle.eliminator.specs.Views.{seen}
use Rattle.eliminator.specs.State.{Bears}
use Rattle.eliminator.proofs.Visiting.{Seen, Waits}
use Rattle.eliminator.proofs.eliminate.first_failing.Given as goal

abbrev pub invariant-loop-i : goal.invariant-loop-i
invariant-loop-i g l =
    let m = g.K.Kind in
    let mine = l.fn.mine in
    let rest = l.i-iterator.rest in
    Waits mine rest × ((x : ℕ) → Seen mine rest x → Bears m.arithmetic m.amount (seen l.table x l.k).worked (seen l.table l.k x).worked)

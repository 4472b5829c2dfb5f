-- The ranks from k on are gone.
use Rattle.std.proofs.Common.{◌≤◌}
use Rattle.kinds.specs.Arithmetic.{Lawful}
use Rattle.eliminator.specs.Views.{Same, seen}
use Rattle.eliminator.specs.Steps.{Near}
use Rattle.eliminator.specs.State.{SameForce, Ready, Stage}
use Rattle.eliminator.proofs.eliminate.eliminate.Given as goal

abbrev pub invariant-loop-k : goal.invariant-loop-k
invariant-loop-k g l =
    let m = g.K.Kind in
    let n = l.initial.table.order.count in
    let xs = seen l.initial.table in
    let ys = seen l.table in
    (l.k ≤ n) × Same l.initial.table l.table × SameForce n xs ys × Near n ys l.near
    × ((L : Lawful m.arithmetic) → Ready m.arithmetic m.amount n xs → Stage L m.amount n l.k xs ys)

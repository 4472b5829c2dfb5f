-- The distances among the ranks below k are made; and those of k with the ranks below i.
use Rattle.eliminator.specs.Views.{Grid, Same, seen}
use Rattle.eliminator.specs.Steps.{Near}
use Rattle.sweeper.specs.Sums.{leasts}
use Rattle.sweeper.specs.Best.{SameWork, Done}
use Rattle.sweeper.proofs.sweep.sweep.Given as goal

abbrev pub invariant-loop-k : goal.invariant-loop-k
invariant-loop-k g l =
    let m = g.K.Kind in
    let n = l.initial.table.order.count in
    let us = seen l.initial.table in
    Same l.initial.table l.table × SameWork n us (seen l.table) × Done m.arithmetic m.amount n us l.k 0 (leasts (seen l.table))

abbrev pub invariant-loop-i : goal.invariant-loop-i
invariant-loop-i g l =
    let m = g.K.Kind in
    let n = l.fn.table.order.count in
    let xs = seen l.initial.table in
    Same l.fn.table l.table × SameWork n xs (seen l.table)
    × ((us : Grid g.row.K.Denot) → SameWork n us xs → Near n us l.near → Done m.arithmetic m.amount n us l.k 0 (leasts xs) → Done m.arithmetic m.amount n us l.k l.i (leasts (seen l.table)))

-- The columns before the index are relaxed.
use Rattle.eliminator.specs.Views.{Same, seen}
use Rattle.eliminator.specs.Members.{Others}
use Rattle.eliminator.specs.Steps.{RowPart}
use Rattle.eliminator.proofs.eliminate.relax_row.Given as goal

abbrev pub invariant-loop-rank : goal.invariant-loop-rank
invariant-loop-rank g l =
    let m = g.K.Kind in
    Same l.fn.table l.table × RowPart m.arithmetic m.amount l.fn.table.order.count l.k l.i (Others l.ranks l.rank-index l.i) (seen l.fn.table) (seen l.table)

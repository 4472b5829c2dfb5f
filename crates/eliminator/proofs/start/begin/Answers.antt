-- One cell after the other.
use Rattle.std.proofs.Common.{◌≡◌, ◌<◌, length, take, ap, ◌∙◌, arith}
use Rattle.std.proofs.lemmas.List.{get_or_append_left, get_or-take, length-take-le}
use Rattle.table.specs.Cells.{empty}
use Rattle.eliminator.specs.Begun.{begun}
use Rattle.eliminator.proofs.Beginning.{begun_here, begun_below, begun_above}
use Rattle.eliminator.proofs.start.begin.Goals as goal

pub loop-cell-preserved : goal.loop-cell-preserved
loop-cell-preserved g c =
    let xs = take c.args.m c.args.cells.now in
    let ys = c.loop-cell.cell-items in
    let p = c.loop-cell.cell-index in
    let h : p < length ys = omega arith in
    let e = begun_here ys p c.cell-item.result c.blank.result h c.cell-item.is c.blank.ensures in (
      begun_below p xs ys _ h e c.loop-cell.invariant.0 c.loop-cell.invariant.1,
      begun_above p xs ys _ h e c.loop-cell.invariant.1,
    )

pub returns-clause-begun : goal.returns-clause-begun
returns-clause-begun g c p h =
    let whole = length-take-le c.args.m c.args.cells.now c.requires.fits in
    let within : p < length c.loop-cell.cell-items = omega (arith, whole) in
    get_or_append_left c.loop-cell.cell-items _ empty p within ∙ c.loop-cell.invariant.0 p (omega (arith, whole)) ∙ ap begun (get_or-take c.args.m c.args.cells.now p empty h)

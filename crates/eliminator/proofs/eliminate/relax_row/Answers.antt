-- One column after the other.
use Rattle.std.proofs.Common.{◌≡◌, ℕ, ◌+◌, length, get_or, sym, refl, ap, ◌∙◌, arith}
use Rattle.order.specs.declared.event_order.EventOrder.{EventOrder}
use Rattle.table.specs.declared.cell.Cell.{Cell}
use Rattle.table.specs.declared.lent.Table.{Table}
use Rattle.eliminator.specs.Views.{seen}
use Rattle.eliminator.specs.Members.{Others}
use Rattle.eliminator.specs.Steps.{OneCell, RowPart}
use Rattle.eliminator.proofs.Viewing.{same_then, same_at, same_count}
use Rattle.eliminator.proofs.Relaxing.{row_start, row_front, row_turn, row_skip}
use Rattle.eliminator.proofs.eliminate.relax_row.Goals as goal

pub loop-rank-init : goal.loop-rank-init
loop-rank-init g c = (record { order = refl; room = refl }, row_start _ c.args.ranks.now _)

pub relax_cell-requires : goal.relax_cell-requires
relax_cell-requires g c =
    let inv = c.loop-rank.invariant in
    let n = ap (λ (o : EventOrder). o.count) inv.0.order in
    record {
      within = omega (arith, c.requires.within);
      row = c.requires.row;
      column = c.requires.columns c.loop-rank.rank-index c.loop-rank-test.true;
      front = ap (λ (t : Cell g.row.K.Denot). t.worked) c.at_ranks.ensures
          ∙ sym (row_front _ _ _ c.args.ranks.now (seen c.args.table.now) (seen c.loop-rank.table) c.requires.columns c.loop-rank-test.true inv.1 c.requires.row c.requires.within);
    }

pub returns : goal.returns
returns g c = let e : c.loop-rank.rank-index ≡ length c.args.ranks.now = omega arith in record { kept = c.loop-rank.invariant.0; part = rw e at c.loop-rank.invariant.1 }

pub loop-rank-preserved : goal.loop-rank-preserved
loop-rank-preserved g c =
    let inv = c.loop-rank.invariant in
    let K = g.row.K.Denot in
    let m = g.K.Kind in
    let n = c.args.table.now.order.count in
    let i = c.args.i in
    let xs = seen c.args.table.now in
    let ys = seen c.loop-rank.table in
    elim c.if-j-i.branch [
      | goal.then-j-i w ↦ same_at
          (λ (t : Table K). RowPart m.arithmetic m.amount n c.args.k i (Others c.args.ranks.now (c.loop-rank.rank-index + 1) i) xs (seen t))
          w.table-is
          (same_then inv.0 w.relax_cell.ensures.kept)
          (row_turn _ _ _ c.args.ranks.now xs ys c.requires.columns c.loop-rank-test.true inv.1 (seen w.relax_cell.new.table) c.requires.row c.requires.within c.requires.apart w.if-j-i.true
          (same_count (λ (n : ℕ). OneCell m.arithmetic m.amount n c.args.k i (get_or c.args.ranks.now c.loop-rank.rank-index 0) ys (seen w.relax_cell.new.table)) inv.0 w.relax_cell.ensures.one))
      | goal.else-j-i w ↦ same_at
          (λ (t : Table K). RowPart m.arithmetic m.amount n c.args.k i (Others c.args.ranks.now (c.loop-rank.rank-index + 1) i) xs (seen t))
          w.table-is
          inv.0
          (row_skip _ _ _ c.args.ranks.now xs ys c.requires.columns c.loop-rank-test.true inv.1 w.if-j-i.false)
    ]

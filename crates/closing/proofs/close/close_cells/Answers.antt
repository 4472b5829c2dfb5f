-- The two ends of closing.
use Rattle.std.proofs.Common.{take, refl, arith}
use Rattle.eliminator.proofs.Viewing.{same_then}
use Rattle.closing.proofs.Tying.{few_names, kept_eliminated, loop_ends, kept_swept, closed_ends}
use Rattle.closing.proofs.close.close_cells.Goals as goal

pub tell-requires : goal.tell-requires
tell-requires g c =
    let l = c.show_loop-shown in
    let s = same_then c.start.ensures.kept c.in-Err.ensures.kept in
    let few = rw s.order at (few_names _ l.result l.new.out l.ensures.held l.ensures.names) in
    record { held = l.ensures.held; room = omega (arith, few, c.requires.room); names = l.ensures.names }

pub returns-in-Err : goal.returns-in-Err
returns-in-Err g c =
    let f = c.in-Err.ensures in
    let l = c.show_loop-shown in
    let a = g.K.Kind.amount in
    let p = g.met.K.Kind.amounts in
    let o = c.args.table.now.order in
    let s = same_then c.start.ensures.kept f.kept in
    let xs = c.start.new.table.cells.now in
    let ys = c.eliminate.new.table.cells.now in
    let begun = rw c.start.ensures.kept.order at c.start.ensures.begun in
    let same = rw (s.order, c.start.ensures.kept.order) at f.same in
    let failed = rw (s.order, c.start.ensures.kept.order) at f.outcome in
    record {
      kept = record { order = s.order; room = s.room };
      same = kept_eliminated g.K.Kind.arithmetic a p o c.args.table.now.cells.now xs ys begun same;
      rest = (rw s.order at (few_names _ l.result l.new.out l.ensures.held l.ensures.names), c.tell.ensures.rest);
      ends = loop_ends g.K.Kind.arithmetic a p o c.args.table.now.cells.now xs ys begun same _ _ (take l.result l.new.out) c.tell.new.place l.result
          failed.low failed.within (rw s.order at l.ensures.names) failed (rw s.order at l.ensures.shows) (rw s.order at c.tell.ensures.told);
    }

pub returns : goal.returns
returns g c =
    let f = c.in_default.ensures in
    let a = g.K.Kind.amount in
    let p = g.met.K.Kind.amounts in
    let o = c.args.table.now.order in
    let s = same_then c.start.ensures.kept f.kept in
    let t = same_then s c.sweep.ensures.kept in
    let xs = c.start.new.table.cells.now in
    let ys = c.eliminate.new.table.cells.now in
    let zs = c.sweep.new.table.cells.now in
    let begun = rw c.start.ensures.kept.order at c.start.ensures.begun in
    let same = rw (s.order, c.start.ensures.kept.order) at f.same in
    let swept = rw (t.order, s.order) at c.sweep.ensures.swept in
    let stage = rw (s.order, c.start.ensures.kept.order) at f.outcome in
    record {
      kept = t;
      same = kept_swept g.K.Kind.arithmetic a p o c.args.table.now.cells.now xs ys begun same zs swept;
      rest = refl;
      ends = closed_ends g.K.Kind.arithmetic a p o c.args.table.now.cells.now xs ys begun same zs swept stage;
    }

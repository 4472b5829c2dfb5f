-- The marks of one rank after the other.
use Rattle.std.proofs.Common.{◌<◌, ◌++◌, length, drop, sym, refl, subst, arith}
use Rattle.std.proofs.lemmas.List.{get_or_append_left, length-take-le}
use Rattle.marks.specs.declared.set.Marks.{Marks}
use Rattle.marks.specs.Sets.{has, no_marks}
use Rattle.eliminator.specs.Views.{view}
use Rattle.eliminator.specs.Steps.{Touching}
use Rattle.eliminator.proofs.Beginning.{begun_view, marks_row, near_start}
use Rattle.eliminator.proofs.start.start.Goals as goal

pub loop-r-preserved : goal.loop-r-preserved
loop-r-preserved g c =
    let o = c.args.table.now.order in
    let h : c.loop-r.r < length c.loop-r.marks-items = omega arith in
    marks_row o.count (view o c.begin.new.cells) c.loop-r.r c.loop-r.marks-items _ h c.neighbours.ensures c.loop-r.invariant

pub returns : goal.returns
returns g c =
    let o = c.args.table.now.order in
    let items = c.loop-r.marks-items in
    let ys = view o c.begin.new.cells in
    let whole = length-take-le o.count c.args.near.now c.requires.room in
    let b = begun_view o c.args.table.now.cells.now _ c.begin.ensures.begun in
    record {
      kept = record { order = refl; room = c.begin.ensures.long };
      begun = b;
      near = near_start _ (view o c.args.table.now.cells.now) ys (items ++ drop o.count c.args.near.now) b
          (λ i s h l. subst (λ (m : Marks). Touching ys i s (has m s)) (sym (get_or_append_left items _ no_marks i (omega (arith, whole)))) (c.loop-r.invariant i s (omega (arith, whole)) l));
    }

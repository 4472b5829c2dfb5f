-- One pair more is written.
use Rattle.std.proofs.Common.{◌≡◌, sym, arith, length-take, length-drop}
use Rattle.net.specs.State.{state, cells_of}
use Rattle.sheet.specs.Told.{coding_of}
use Rattle.sheet.proofs.Places.{laid_start, laid_none, laid_some, laid_row, laid_room, laid_all}
use Rattle.sheet.proofs.SheetWritten.{held_within}
use Rattle.sheet.proofs.writing.put_bounds.Goals.{in-Some, in_default}
use Rattle.sheet.proofs.writing.put_bounds.Goals as goal

pub loop-from-init : goal.loop-from-init
loop-from-init g c = laid_start (coding_of g.K.Kind) (state g.K.Kind.amount c.args.net.now).bounds c.args.net.now.table.order.count c.args.out.now

pub put_bound-at-requires : goal.put_bound-at-requires
put_bound-at-requires g c =
    let n = c.events-n.ensures in
    let r = laid_room (coding_of g.K.Kind) (state g.K.Kind.amount c.args.net.now).bounds c.args.net.now.table.order.count c.loop-from.from c.loop-to.to c.loop-to.at c.loop-to.out c.args.out.now (g.K.Kind.amount c.in-Some.bound) c.loop-to.invariant (sym c.in-Some.ensures) (omega arith) (omega arith) c.requires.fits in
    simp (length-take, length-drop) (omega arith)

pub loop-to-preserved : goal.loop-to-preserved
loop-to-preserved g c =
    let n = c.events-n.ensures in
    elim c.match-bound_between.branch [
      | in-Some w ↦ rw (w.at-is, w.out-is) (laid_some (coding_of g.K.Kind) (state g.K.Kind.amount c.args.net.now).bounds c.args.net.now.table.order.count c.loop-from.from c.loop-to.to c.loop-to.at w.put_bound-at.result c.loop-to.out w.put_bound-at.new.out c.args.out.now (g.K.Kind.amount w.in-Some.bound) c.loop-to.invariant (sym w.in-Some.ensures) (omega arith) (omega arith) c.requires.fits w.put_bound-at.ensures.used w.put_bound-at.ensures.bytes w.put_bound-at.ensures.codes)
      | in_default w ↦ rw (w.at-is, w.out-is) (laid_none (coding_of g.K.Kind) (state g.K.Kind.amount c.args.net.now).bounds c.args.net.now.table.order.count c.loop-from.from c.loop-to.to c.loop-to.at c.loop-to.out c.args.out.now c.loop-to.invariant (sym w.in_default.ensures))
    ]

pub loop-from-preserved : goal.loop-from-preserved
loop-from-preserved g c =
    let n = c.events-n.ensures in
    let e : c.loop-to.to ≡ c.args.net.now.table.order.count = omega arith in
    laid_row (coding_of g.K.Kind) (state g.K.Kind.amount c.args.net.now).bounds c.args.net.now.table.order.count c.loop-from.from c.loop-to.at c.loop-to.out c.args.out.now (rw e at c.loop-to.invariant)

pub returns : goal.returns
returns g c =
    let n = c.events-n.ensures in
    let h = laid_all (coding_of g.K.Kind) (state g.K.Kind.amount c.args.net.now).bounds c.args.net.now.table.order.count c.loop-from.from c.loop-from.at c.loop-from.out c.args.out.now c.loop-from.invariant (omega arith) in
    record {
      used = h.ends;
      bytes = h.bytes;
      long = h.long;
      codes = λ i j w e. let p = held_within g.K.Kind.amount c.args.net.now.table.order.count (cells_of c.args.net.now) i j w e in h.codes i p.0 j p.1 w e;
    }

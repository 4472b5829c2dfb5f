-- A write that keeps what the elimination left.
use Rattle.std.proofs.Common.{◌<◌, length, refl, arith, length-set, rules}
use Rattle.sweeper.proofs.Settling.{settled_in_place}
use Rattle.sweeper.proofs.sweep.settle.Goals as goal

pub place-p-requires : goal.place-p-requires
place-p-requires g c =
    let o = c.args.table.now.order in
    record { few = o.fits; row = o.events_below c.args.r c.requires.row; column = o.events_below c.args.s c.requires.column }

pub returns : goal.returns
returns g c =
    let t = c.args.table.now in
    record {
      kept = record { order = refl; room = simp length-set };
      settles = settled_in_place t.order t.cells.now c.args.r c.args.s c.place-p.result c.args.least c.index-table-p.result c.index-table-p-2.result t.fits c.requires.row c.requires.column c.place-p.ensures.value c.place-p.ensures.below
          c.index-table-p.is;
    }

pub offset_bounds-table-p : goal.offset_bounds-table-p
offset_bounds-table-p g c = let h : c.place-p.result < length c.args.table.now.cells.now = omega (arith, c.place-p.ensures.below, c.args.table.now.fits) in search rules

pub offset_bounds-table-p-2 : goal.offset_bounds-table-p-2
offset_bounds-table-p-2 g c = let h : c.place-p.result < length c.args.table.now.cells.now = omega (arith, c.place-p.ensures.below, c.args.table.now.fits) in search rules

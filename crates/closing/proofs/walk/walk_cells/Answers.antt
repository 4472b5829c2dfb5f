-- The ranks of the walk, told as events.
use Rattle.std.proofs.Common.{arith}
use Rattle.closing.proofs.Tying.{few_names, walk_told}
use Rattle.closing.proofs.walk.walk_cells.Goals as goal

pub walk_ranks-len-requires : goal.walk_ranks-len-requires
walk_ranks-len-requires g c =
    let o = c.args.order.now in
    record { fits = c.requires.fits; row = o.ranks_below c.args.i c.requires.row; column = o.ranks_below c.args.j c.requires.column; room = o.fits }

pub tell-requires : goal.tell-requires
tell-requires g c =
    let w = c.walk_ranks-len in
    let m = few_names c.args.order.now.count w.result w.new.out w.ensures.held w.ensures.names in
    record { held = w.ensures.held; room = omega (arith, m, c.requires.room); names = w.ensures.names }

pub returns : goal.returns
returns g c =
    let w = c.walk_ranks-len in
    let o = c.args.order.now in
    record {
      few = few_names o.count w.result w.new.out w.ensures.held w.ensures.names;
      rest = c.tell.ensures.rest;
      walks = walk_told g.K.Kind.arithmetic g.K.Kind.amount g.met.K.Kind.amounts o c.args.cells.now c.args.i c.args.j w.result _ c.tell.new.place c.requires.row c.requires.column w.ensures.names w.ensures.alone w.ensures.walks c.tell.ensures.told;
    }

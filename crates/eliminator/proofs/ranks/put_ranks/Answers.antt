-- The write at the events of two ranks is a write at those ranks.
use Rattle.std.proofs.Common.{length, ap, ◌∙◌, length-set}
use Rattle.eliminator.proofs.Viewing.{written}
use Rattle.eliminator.proofs.ranks.put_ranks.Goals as goal

pub put-requires : goal.put-requires
put-requires g c =
    let o = c.args.order.now in
    record { few = o.fits; fits = c.requires.fits; row = o.events_below c.args.r c.requires.row; column = o.events_below c.args.s c.requires.column }

pub returns : goal.returns
returns g c = record {
  long = ap length c.put.ensures ∙ simp length-set;
  written = written c.args.order.now c.args.cells.now _ c.args.r c.args.s c.args.cell c.requires.fits c.requires.row c.requires.column c.put.ensures;
}

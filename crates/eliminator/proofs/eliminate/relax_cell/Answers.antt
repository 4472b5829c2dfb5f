-- One cell is written, or none.
use Rattle.std.proofs.Common.{refl}
use Rattle.eliminator.specs.Views.{seen}
use Rattle.eliminator.proofs.Relaxing.{cell_lowered, cell_kept}
use Rattle.eliminator.proofs.eliminate.relax_cell.Goals as goal

pub returns-in-Some : goal.returns-in-Some
returns-in-Some g c = record {
  kept = record { order = refl; room = c.put_ranks.ensures.long };
  one = cell_lowered g.met.K.Kind.lawful g.met.K.Kind.amounts _ _ _ _ _ _ _ _ _ c.at_ranks-old.ensures c.requires.front c.at_ranks-back.ensures c.in-Some.ensures refl c.put_ranks.ensures.written;
}

pub returns-in_default : goal.returns-in_default
returns-in_default g c = record {
  kept = record { order = refl; room = refl };
  one = cell_kept {A = g.K.Kind.arithmetic} {amount = g.K.Kind.amount} {n = c.args.table.now.order.count} {k = c.args.k} c.args.i c.args.j (seen c.args.table.now) c.at_ranks-old.result c.at_ranks-back.result c.args.front c.at_ranks-old.ensures c.requires.front c.at_ranks-back.ensures c.in_default.ensures;
}

use Rattle.std.proofs.Common.{arith}
use Rattle.table.proofs.Tables.{place_below}
use Rattle.table.proofs.grid.place.Goals as goal

pub returns-clause-below : goal.returns-clause-below
returns-clause-below c = place_below c.args.n c.args.i c.args.j (omega arith) (omega arith)

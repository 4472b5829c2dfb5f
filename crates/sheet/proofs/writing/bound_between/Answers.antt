-- The bound told is the one in force.
use Rattle.sheet.proofs.Places.{told}
use Rattle.sheet.proofs.writing.bound_between.Goals as goal

pub returns : goal.returns
returns g c = rw (c.flatten.ensures, c.ok.ensures.value) (told g.K.Kind.amount c.args.net.now c.args.from c.args.to c.bound.result c.bound.ensures)

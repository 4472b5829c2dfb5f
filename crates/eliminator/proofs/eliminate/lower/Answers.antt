-- Below k and marked.
use Rattle.eliminator.proofs.Relaxing.{lower_of}
use Rattle.eliminator.proofs.eliminate.lower.Goals as goal

pub returns : goal.returns
returns c = lower_of c.args.near.now c.args.k _ _ c.all_below.ensures c.intersection.ensures

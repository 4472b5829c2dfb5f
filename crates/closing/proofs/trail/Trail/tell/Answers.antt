-- As many events as the walk has ranks.
use Rattle.std.proofs.Common.{arith, length-take-le}
use Rattle.closing.proofs.Pushes.{few_names}
use Rattle.closing.proofs.trail.Trail.tell.Goals as goal

pub returns-clause-few : goal.returns-clause-few
returns-clause-few g c =
    let t = c.args.self.now in
    omega (arith, few_names _ _ t.names, length-take-le t.len t.ranks t.held)

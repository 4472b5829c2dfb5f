use Rattle.std.proofs.Common.{◌<◌, arith, rules}
use Rattle.eliminator.proofs.start.neighbours.Goals as goal

pub returns : goal.returns
returns g c = λ s l.
    let within : s < c.events.result = omega arith in
    let told = c.of.ensures.inside s within in
    search rules

use Rattle.walks.proofs.Distances.{contradiction}
use Rattle.walks.proofs.contradiction_is_a_loop.Goals as goal

pub returns : goal.returns
returns c = contradiction

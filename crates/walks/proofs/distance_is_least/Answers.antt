use Rattle.walks.proofs.Distances.{told}
use Rattle.walks.proofs.distance_is_least.Goals as goal

pub returns : goal.returns
returns c = told

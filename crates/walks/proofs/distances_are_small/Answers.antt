use Rattle.walks.proofs.Sizes.{small}
use Rattle.walks.proofs.distances_are_small.Goals as goal

pub returns : goal.returns
returns c = small

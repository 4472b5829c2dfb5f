use Rattle.walks.proofs.Routes.{route}
use Rattle.walks.proofs.distance_has_a_route.Goals as goal

pub returns : goal.returns
returns c = route

use Rattle.walks.proofs.Metric.{metric}
use Rattle.walks.proofs.distances_are_a_metric.Goals as goal

pub returns : goal.returns
returns c = metric

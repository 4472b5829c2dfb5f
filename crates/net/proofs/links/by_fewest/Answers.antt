use Rattle.std.proofs.Common.{◌≡◌}
use Rattle.order.specs.Orderings.{events_of}
use Rattle.order.specs.Ranking.{Ranked, ranking}
use Rattle.net.proofs.Neighbourhoods.{moved}
use Rattle.net.proofs.RankingWhole.{ranking_count}
use Rattle.net.proofs.links.by_fewest.Goals as goal

pub returns-clause-value : goal.returns-clause-value
returns-clause-value g c = moved (λ n G. events_of c.rank.result ≡ ranking n G n) _ _ _ c.gather.ensures.sized c.gather.ensures.near c.rank.ensures.value

pub returns-clause-ruled : goal.returns-clause-ruled
returns-clause-ruled g c = moved (λ n G. Ranked n G (events_of c.rank.result)) _ _ _ c.gather.ensures.sized c.gather.ensures.near c.rank.ensures.ruled

pub returns-clause-sized : goal.returns-clause-sized
returns-clause-sized g c = ranking_count _ _ c.rank.result (returns-clause-value g c)

-- The part of the place that the members are listed in.
use Rattle.std.proofs.Common.{arith}
use Rattle.eliminator.proofs.Listing.{list_taken}
use Rattle.eliminator.proofs.members.listed.Goals as goal

pub returns : goal.returns
returns c = list_taken _ _ c.list-count.result (omega (arith, c.list-count.ensures.few, c.list-count.ensures.long, c.requires)) c.list-count.ensures.lists

-- By computing.
use Rattle.listing_example.proofs.Computed.{worked}
use Rattle.listing_example.proofs.worked_sheet_is_listed.Goals as goal

pub returns : goal.returns
returns c = worked

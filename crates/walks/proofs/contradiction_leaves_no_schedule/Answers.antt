use Rattle.walks.proofs.Schedules.{no_schedule}
use Rattle.walks.proofs.contradiction_leaves_no_schedule.Goals as goal

pub returns : goal.returns
returns c = no_schedule

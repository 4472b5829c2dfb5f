use Rattle.walks.proofs.Schedules.{times}
use Rattle.walks.proofs.times_are_a_schedule.Goals as goal

pub returns : goal.returns
returns c = times

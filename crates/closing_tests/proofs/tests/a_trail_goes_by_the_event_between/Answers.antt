-- The walk is no longer than there are events.
use Rattle.std.proofs.Common.{arith}
use Rattle.closing.proofs.Pushes.{few_names}
use Rattle.closing_tests.proofs.tests.a_trail_goes_by_the_event_between.Goals as goal

pub tell-requires-2 : goal.tell-requires-2
tell-requires-2 g c =
    let t = c.expand.new.self in
    omega (arith, few_names _ _ t.names, t.table.now.order.fits)

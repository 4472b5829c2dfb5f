-- The higher of the two ranks falls.
use Rattle.std.proofs.Common.{max}
use Rattle.closing.proofs.walk.+trace.Given as goal

abbrev pub decreases-trace : goal.decreases-trace
decreases-trace g l = max l.i l.j

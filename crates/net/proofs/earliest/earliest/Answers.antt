use Rattle.std.proofs.Common.{add-one}
use Rattle.net.proofs.earliest.earliest.Goals as goal

pub loop-i-preserved : goal.loop-i-preserved
loop-i-preserved g c = rw add-one (cc)

use Rattle.std.proofs.Common.{rules}
use Rattle.kinds.proofs.strict.StrictMicrosKind.sum.Goals as goal

pub returns : goal.returns
returns c = search rules

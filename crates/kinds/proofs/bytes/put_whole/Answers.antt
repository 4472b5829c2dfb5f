use Rattle.std.proofs.Common.{rules}
use Rattle.kinds.specs.Bytes.{whole_bytes, whole_of}
use Rattle.kinds.proofs.bytes.put_whole.Goals as goal

pub returns-then-out-ne8 : goal.returns-then-out-ne8
unfolding whole_bytes whole_of
returns-then-out-ne8 c = search rules

pub returns : goal.returns
unfolding whole_bytes whole_of
returns c = search rules

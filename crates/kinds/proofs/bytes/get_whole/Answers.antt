use Rattle.std.proofs.Common.{ap, ◌∙◌, rules}
use Rattle.kinds.specs.Bytes.{whole_bytes, whole_of}
use Rattle.kinds.proofs.Eight.{read_back}
use Rattle.kinds.proofs.bytes.get_whole.Goals as goal

pub returns-clause-names : goal.returns-clause-names
unfolding whole_bytes whole_of
returns-clause-names c = search rules

pub returns-clause-back : goal.returns-clause-back
returns-clause-back c = ap whole_bytes (returns-clause-names c).1 ∙ read_back c.args.from.now (returns-clause-names c).0 c.type_inv.from

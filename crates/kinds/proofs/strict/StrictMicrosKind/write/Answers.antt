use Rattle.std.proofs.Common.{[], ◌∷◌, rules}
use Rattle.kinds.proofs.Eight.{row_back}
use Rattle.kinds.proofs.strict.StrictMicrosKind.write.Goals as goal

pub returns-then-out-ne-WIDTH-clause-back : goal.returns-then-out-ne-WIDTH-clause-back
returns-then-out-ne-WIDTH-clause-back c = row_back (c.args.self.number ∷ c.args.self.mark ∷ []) (search rules)

pub returns-clause-back : goal.returns-clause-back
returns-clause-back c = row_back (c.args.self.number ∷ c.args.self.mark ∷ []) (search rules)

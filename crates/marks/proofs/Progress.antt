-- A visit comes to an end.
use Rattle.std.proofs.Common.{ℕ, Some, None, Option}
use Rattle.std.specs.Iterator.{MakesProgress, at_most}
use Rattle.marks.specs.declared.members.Members.{Members}
use Rattle.marks.specs.Sets.{has, how_many, Visits}
use Rattle.marks.proofs.Counting.{fewer}

pub progress : (s : Members) (r : Option ℕ) (t : Members) → Visits s.rest r t.rest → MakesProgress (λ _. Unit {0}) (λ v. at_most (how_many (has v.rest) 128)) s r t
progress s None t h = record { on = λ f. tt; keeps = tt; rests = λ f. tt }
progress s (Some e) t h = record { on = λ f. (tt, tt, fewer s.rest t.rest e h); keeps = tt; rests = λ f. tt }

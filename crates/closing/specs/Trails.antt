-- The ranks of a trail.
use Rattle.std.specs.Prelude.{ℕ, List, take}
use Rattle.closing.specs.declared.trail.Trail.{Trail}

abbrev pub written : {K : Type 0} → Trail K → List ℕ
written t = take t.len t.ranks

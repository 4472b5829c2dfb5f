-- What a net keeps to from its making on.
use Rattle.std.specs.Prelude.{◌≡◌, List, ℤ}
use Rattle.kinds.specs.Arithmetic.{Arithmetic}
use Rattle.closing.specs.Closed.{Holds}
use Rattle.net.specs.declared.mode.Mode.TheVariants.{Closed}
use Rattle.net.specs.declared.net.Net.{Net}
use Rattle.net.specs.State.{state, cells_of, Sound}

-- its bounds in force are sound, and while it is closed they do not contradict and its table holds every distance
pub record Kept {K : Type 0} (A : Arithmetic) (amount : K → List ℤ) (net : Net K) : Type 0 where
  pub sound : Sound A (state amount net)
  pub holds : net.mode ≡ Closed → Holds A amount net.table.order (cells_of net)

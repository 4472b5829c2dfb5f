-- What close answers, makes of the state, and writes.
use Rattle.std.specs.Prelude.{◌≡◌, ℕ, ◌≤◌, cond, List, [], ◌∷◌, take, drop, ℤ, Ok, Err, Option, Result, nat_le}
use Rattle.kinds.specs.Arithmetic.{Arithmetic}
use Rattle.walks.specs.Bounds.{InForce}
use Rattle.walks.specs.Walks.{Loop}
use Rattle.walks.specs.Least.{contradictory}
use Rattle.order.specs.declared.counts.Counts.{Counts}
use Rattle.order.specs.Counted.{counts_of}
use Rattle.table.specs.Cells.{neighbours}
use Rattle.net.specs.declared.mode.Mode.{Mode}
use Rattle.net.specs.declared.mode.Mode.TheVariants.{Open, Closed}
use Rattle.net.specs.declared.refusal.Refusal.{Refusal}
use Rattle.net.specs.Refusals.{reason}
use Rattle.net.specs.State.{State}

-- what close answers, by the number of its refusal, and the state after it
pub record Closing : Type 0 where
  pub answer : Result Counts ℕ
  pub after : State

abbrev pub closing : Result Counts ℕ → State → Closing
closing answer after = record { answer = answer; after = after }

abbrev pub in_mode : Mode → State → State
in_mode mode s = record { events = s.events; bounds = s.bounds; order = s.order; mode = mode }

-- close, with a place of that many bytes
unfoldable pub closed : Arithmetic → (place : ℕ) → State → Closing
closed A place s =
    cond (nat_le s.events place)
    (cond (contradictory A s.events s.bounds)
    (closing (Err 16) (in_mode Open s))
    (closing (Ok (counts_of s.events (neighbours s.bounds) s.order)) (in_mode Closed s)))
    (closing (Err 5) s)

-- an answer, with the number of a refusal
abbrev pub numbered : {T : Type 0} → Result T Refusal → Result T ℕ
numbered (Ok x) = Ok x
numbered (Err e) = Err (reason e).number

-- the values that a refusal carries
abbrev pub carried : {T : Type 0} → Result T Refusal → List ℕ
carried (Ok x) = []
carried (Err e) = (reason e).values

-- a refusal that carries a number shows a loop of that many events, under zero in sum, at the start of the place
abbrev pub Shown : Arithmetic → (ℕ → ℕ → Option (List ℤ)) → List ℕ → List ℕ → Type 0
Shown A F place [] = Unit {0}
Shown A F place (m ∷ more) = Loop A (InForce F) (take m place)

-- nothing else is written
abbrev pub Rest : ℕ → List ℕ → List ℕ → List ℕ → Type 0
Rest n before after [] = after ≡ before
Rest n before after (m ∷ more) = (m ≤ n) × (drop m after ≡ drop m before)

-- What a closed net tells.
use Rattle.std.specs.Prelude.{◌≡◌, ℕ, ◌<◌, ◌≤◌, cond, ◌&&◌, List, take, drop, ℤ, Some, None, Ok, Err, Option, Result, nat_le, nat_lt}
use Rattle.std.specs.List.{slice_get}
use Rattle.kinds.specs.Arithmetic.{Arithmetic}
use Rattle.table.specs.Cells.{amount_of}
use Rattle.walks.specs.Bounds.{InForce}
use Rattle.walks.specs.Walks.{Route, Schedule}
use Rattle.walks.specs.Least.{distance, window, time}
use Rattle.net.specs.declared.mode.Mode.{Mode}
use Rattle.net.specs.Refusals.{Reason, by}
use Rattle.net.specs.State.{State}
use Rattle.net.specs.Told.{shut}

-- a question about two events of n: refused by 3 where one is not in the net, by 6 where the net is not closed
unfoldable pub asked : {T : Type 0} → ℕ → Mode → (i j : ℕ) → Result T Reason → Result T Reason
asked n mode i j answer = cond (nat_lt i n && nat_lt j n) (cond (shut mode) answer (Err (by 6))) (Err (by 3))

-- the least sum of all walks from i to j
abbrev pub distance_told : Arithmetic → (i j : ℕ) → State → Result (Option (List ℤ)) Reason
distance_told A i j s = asked s.events s.mode i j (Ok (distance A s.events s.bounds i j))

-- the two ends for the time of j minus the time of i
abbrev pub window_told : Arithmetic → (List ℤ → List ℤ) → (i j : ℕ) → State → Result (Option (List ℤ) × Option (List ℤ)) Reason
window_told A minus i j s = asked s.events s.mode i j (Ok (window A minus s.events s.bounds i j))

-- a question is refused or not, whatever is told
abbrev pub pair_asked : (i j : ℕ) → State → Result (Unit {0}) Reason
pair_asked i j s = asked s.events s.mode i j (Ok tt)

-- an answer of two ends, with the amounts in place of the bounds
abbrev pub ends_told : {K E : Type 0} → (K → List ℤ) → Result (Option K × Option K) E → Result (Option (List ℤ) × Option (List ℤ)) E
ends_told amount (Ok ends) = Ok (amount_of amount ends.0, amount_of amount ends.1)
ends_told amount (Err e) = Err e

-- whether a call was accepted
abbrev pub done : {T E : Type 0} → Result T E → Result (Unit {0}) E
done (Ok x) = Ok tt
done (Err e) = Err e

-- a place of that many for n events
abbrev pub placed : ℕ → ℕ → Result (Unit {0}) Reason
placed n place = cond (nat_le n place) (Ok tt) (Err (by 5))

-- a walk is asked for
abbrev pub walk_asked : (i j place : ℕ) → State → Result (Unit {0}) Reason
walk_asked i j place s = asked s.events s.mode i j (placed s.events place)

-- a walk of least sum that names no event twice stands at the start of the place, and nothing else is written; none where no walk is
abbrev pub Walked : Arithmetic → State → (i j : ℕ) → (before after : List ℕ) → Option ℕ → Type 0
Walked A s i j before after None = (distance A s.events s.bounds i j ≡ None) × (after ≡ before)
Walked A s i j before after (Some m) =
    ((d : List ℤ) × (distance A s.events s.bounds i j ≡ Some d) × Route A (InForce s.bounds) i j (take m after) d) × (m ≤ s.events) × (drop m after ≡ drop m before)

abbrev pub WalkTold : {E : Type 0} → Arithmetic → State → (i j : ℕ) → (before after : List ℕ) → Result (Option ℕ) E → Type 0
WalkTold A s i j before after (Ok told) = Walked A s i j before after told
WalkTold A s i j before after (Err e) = after ≡ before

-- what a walk leaves of the place, whatever the net holds
abbrev pub WalkRest : {E : Type 0} → ℕ → (before after : List ℕ) → Result (Option ℕ) E → Type 0
WalkRest n before after (Ok None) = after ≡ before
WalkRest n before after (Ok (Some m)) = (m ≤ n) × (drop m after ≡ drop m before)
WalkRest n before after (Err e) = after ≡ before

-- times are asked for: refused by 6 where the net is not closed, by 5 where the place is too short
unfoldable pub times_asked : (place : ℕ) → State → Result (Unit {0}) Reason
times_asked place s = cond (shut s.mode) (placed s.events place) (Err (by 6))

-- the time of each event stands in the place, and nothing else is written
abbrev pub Timed : {K E : Type 0} → Arithmetic → (K → List ℤ) → State → (before after : List K) → Result (Unit {0}) E → Type 0
Timed A amount s before after (Ok x) =
    ((j : ℕ) → j < s.events → amount_of amount (slice_get after j) ≡ time A s.events s.bounds j) × (drop s.events after ≡ drop s.events before)
Timed A amount s before after (Err e) = after ≡ before

-- what times leave of the place, whatever the net holds
abbrev pub TimesRest : {K E : Type 0} → ℕ → (before after : List K) → Result (Unit {0}) E → Type 0
TimesRest n before after (Ok x) = drop n after ≡ drop n before
TimesRest n before after (Err e) = after ≡ before

-- the place sets a schedule that keeps every bound in force
pub record Schedules {K : Type 0} (A : Arithmetic) (amount : K → List ℤ) (s : State) (place : List K) : Type 0 where
  pub schedule : Schedule A (InForce s.bounds)
  pub times : (j : ℕ) → j < s.events → amount_of amount (slice_get place j) ≡ Some (schedule.time j)

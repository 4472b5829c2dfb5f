-- The law of a net: what holds after every list of calls on one net just made over any table.
use Rattle.std.specs.Prelude.{◌≡◌, ℕ, ◌<◌, ◌≤◌, Bool, true, ◌↔◌, List, [], ◌∷◌, reverse, length, take, drop, ℤ, Ok, Err, Option, Result, ◌≢◌}
use Rattle.kinds.specs.Arithmetic.{Arithmetic}
use Rattle.walks.specs.Walks.{UnderZero, Loop, Schedule, Told, Window}
use Rattle.net.specs.Limits.{most_events}
use Rattle.net.specs.Refusals.{Reason}
use Rattle.history.specs.Deeds.{Deed, Action, Answer, Entry, accepted, refused}
use Rattle.history.specs.Deeds.Deed.{close}
use Rattle.history.specs.History.{events, closed, InForce, Need, need, First, Both, Calm, History, noted, Uncontradicted}
use Rattle.history.specs.Standing.{ended, counted, contradiction}

-- what a net tells when it is asked whether it is closed, and for the distance and the window of two events
pub record Asked : Type 0 where
  pub is_closed : Bool
  pub distance : Result (Option (List ℤ)) Reason
  pub window : Result (Option (List ℤ) × Option (List ℤ)) Reason

-- what it tells before a close, at the close, and after it
pub record Report : Type 0 where
  pub before : Asked
  pub closing : Result (Unit {0}) Reason
  pub after : Asked

-- a question asks for events of the net, and for a closed net
abbrev pub question : List Deed → ℕ → ℕ → List Need
question past i j = need 3 (Both past i j) ∷ need 6 (closed past ≡ true) ∷ []

-- refused by the first need that is not met; else what is told is right
abbrev pub Replied : {T : Type 0} → List Need → (T → Type 0) → Result T Reason → Type 0
Replied ns Right (Ok x) = First ns accepted × Right x
Replied ns Right (Err e) = First ns (refused e.number)

-- answers of a net whose accepted calls are those of the past
pub record Truly (A : Arithmetic) (past : List Deed) (i j : ℕ) (told : Asked) : Type 0 where
  pub closed_or_not : told.is_closed ≡ closed past
  -- the distance is none exactly where no walk is; else the sum of one, and at most that of every other
  pub distances : Replied (question past i j) (Told A (InForce A past) i j) told.distance
  -- an amount lies in the window exactly when some schedule keeps every bound in force and sets j that amount after i
  pub windows : Replied (question past i j) (Window A (InForce A past) i j) told.window
  -- a closed net has no loop under zero
  pub calm : told.is_closed ≡ true → (loop : List ℕ) → ¬ (UnderZero A (InForce A past) loop)

-- a close that is given this place, as it is after the close
pub record Closing (A : Arithmetic) (past : List Deed) (place : List ℕ) (answer : Result (Unit {0}) Reason) (closed_after : Bool) : Type 0 where
  -- the place is too short exactly when it has fewer bytes than there are events
  pub short : (ended answer ≡ refused 5) ↔ (length place < events past)
  -- a contradiction exactly when no schedule keeps every bound in force
  pub contradictions : events past ≤ length place → (ended answer ≡ refused 16) ↔ ¬ (Schedule A (InForce A past))
  -- a contradiction is shown by a loop of bounds in force under zero that names no event twice
  pub loops : ended answer ≡ refused 16 → (m : ℕ) × (answer ≡ Err (contradiction m)) × (m ≤ length place) × Loop A (InForce A past) (take m place)
  -- with no contradiction the net is closed
  pub closes : events past ≤ length place → (ended answer ≢ refused 16) → (ended answer ≡ accepted) × (closed_after ≡ true)

-- after these actions on a net just made over a table of that many cells
pub record Law (A : Arithmetic) (sheet : List ℕ → List Entry) (cells : ℕ) (actions : List Action) (i j : ℕ) (slots slots_after : List Answer) (place_before place : List ℕ) (report : Report) : Type 0 where
  -- how each action ended, and the accepted calls, both with the newest first; there is no other such history
  pub answers : List Answer
  pub past : List Deed
  pub history : History A sheet cells (reverse actions) answers past
  pub only : (xs : List Answer) (p : List Deed) → History A sheet cells (reverse actions) xs p → (xs ≡ answers) × (p ≡ past)
  pub told : slots_after ≡ noted (reverse answers) slots
  -- the place is as it was behind the events of a loop, and all of it where no close found a contradiction
  pub rest : drop most_events place ≡ drop most_events place_before
  pub unwritten : Uncontradicted (ended report.closing ∷ answers) → place ≡ place_before
  -- after each of the actions a closed net has no loop under zero
  pub calm : (k : ℕ) (xs : List Answer) (p : List Deed) → History A sheet cells (reverse (take k actions)) xs p → Calm A p
  -- what the net tells then, how a close ends, and what the net tells after it
  pub before : Truly A past i j report.before
  pub closing : Closing A past place report.closing report.after.is_closed
  pub after : Truly A (counted (ended report.closing) (close (length place)) past) i j report.after

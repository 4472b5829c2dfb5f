-- The state of a net, and what each call answers and makes of it.
use Rattle.std.specs.Prelude.{◌≡◌, ℕ, ◌<◌, ◌≤◌, Bool, cond, not, ◌&&◌, List, [], length, ℤ, is_some, Some, None, Ok, Err, Option, Result, ◌==◌, nat_le, nat_lt}
use Rattle.kinds.specs.Arithmetic.{Arithmetic, Amount}
use Rattle.table.specs.declared.cell.Cell.{Cell}
use Rattle.table.specs.Cells.{bounds, neighbours}
use Rattle.order.specs.declared.event_order.Misordered.{Misordered}
use Rattle.order.specs.declared.event_order.Misordered.TheVariants.{Count, Outside, Again}
use Rattle.order.specs.Orderings.{events_of, upto}
use Rattle.order.specs.Orderings as orderings
use Rattle.order.specs.Ranking.{ranking}
use Rattle.net.specs.declared.mode.Mode.{Mode}
use Rattle.net.specs.declared.mode.Mode.TheVariants.{Open}
use Rattle.net.specs.declared.net.Net.{Net}
use Rattle.net.specs.Limits.{most_events, cells_needed, most_size}
use Rattle.net.specs.Refusals.{Reason, by}

pub record State : Type 0 where
  -- how many events there are
  pub events : ℕ
  -- the amount of the bound in force from one event to another
  pub bounds : ℕ → ℕ → Option (List ℤ)
  -- the events from rank 1 on
  pub order : List ℕ
  pub mode : Mode

-- the cells that a net was made over
abbrev pub cells_of : {K : Type 0} → Net K → List (Cell K)
cells_of net = net.table.cells.now

-- how many those are
abbrev pub room : {K : Type 0} → Net K → ℕ
room net = length (cells_of net)

abbrev pub state : {K : Type 0} → (K → List ℤ) → Net K → State
state amount net = record { events = net.table.order.count; bounds = bounds amount net.table.order.count (cells_of net); order = events_of net.table.order; mode = net.mode }

-- what a call answers, and the state after it
pub record Outcome : Type 0 where
  pub answer : Result (Unit {0}) Reason
  pub after : State

abbrev pub outcome : Result (Unit {0}) Reason → State → Outcome
outcome answer after = record { answer = answer; after = after }

-- a refusal alters nothing
abbrev pub refused : ℕ → State → Outcome
refused number s = outcome (Err (by number)) s

abbrev pub accepted : State → Outcome
accepted s = outcome (Ok tt) s

-- where a need is not met the call is refused by its number, else it goes on
abbrev pub need : Bool → ℕ → State → Outcome → Outcome
need met number s further = cond met further (refused number s)

-- no bound anywhere
abbrev pub unbound : ℕ → ℕ → Option (List ℤ)
unbound i j = None

-- the bounds, with another from i to j
abbrev pub with_bound : (ℕ → ℕ → Option (List ℤ)) → ℕ → ℕ → Option (List ℤ) → ℕ → ℕ → Option (List ℤ)
with_bound F i j b x y = cond (x == i && y == j) b (F x y)

-- the lesser of the bound in force and a new one
abbrev pub lesser : Arithmetic → Option (List ℤ) → List ℤ → List ℤ
lesser A None w = w
lesser A (Some v) w = cond (A.at_most v w) v w

-- both are events of the net
abbrev pub both_events : State → ℕ → ℕ → Bool
both_events s i j = nat_lt i s.events && nat_lt j s.events

-- whether i and j are among n events, and why not
abbrev pub known : (n i j : ℕ) → Result (Unit {0}) Reason
known n i j = cond (nat_lt i n && nat_lt j n) (Ok tt) (Err (by 3))

-- whether a bound can join i and j among n events, and why not
unfoldable pub paired : (n i j : ℕ) → Result (Unit {0}) Reason
paired n i j = cond (nat_lt i n && nat_lt j n) (cond (i == j) (Err (by 4)) (Ok tt)) (Err (by 3))

-- a net just made
abbrev pub made : State
made = record { events = 0; bounds = unbound; order = []; mode = Open }

-- n events, with no bound between them, in the order of their numbers
abbrev pub fresh : ℕ → State
fresh n = record { events = n; bounds = unbound; order = upto n; mode = Open }

-- the state with another bound from i to j
abbrev pub rebound : State → ℕ → ℕ → Option (List ℤ) → State
rebound s i j b = record { events = s.events; bounds = with_bound s.bounds i j b; order = s.order; mode = Open }

-- the state with another ordering
abbrev pub reordered : State → List ℕ → State
reordered s events = record { events = s.events; bounds = s.bounds; order = events; mode = Open }

-- begin with n events, over a table of that many cells
unfoldable pub begun : (cells n : ℕ) → State → Outcome
begun cells n s =
    need (nat_lt 0 n && nat_le n most_events) 1 s
    (need (nat_le (cells_needed n) cells) 2 s
    (accepted (fresh n)))

-- require a bound of amount w from i to j
unfoldable pub required : Arithmetic → (i j : ℕ) (w : List ℤ) → State → Outcome
required A i j w s =
    need (both_events s i j) 3 s
    (need (not (i == j)) 4 s
    (need (nat_le (A.size w) most_size) 11 s
    (accepted (rebound s i j (Some (lesser A (s.bounds i j) w))))))

-- withdraw the bound in force from i to j
unfoldable pub withdrawn : (i j : ℕ) → State → Outcome
withdrawn i j s =
    need (both_events s i j) 3 s
    (need (not (i == j)) 4 s
    (need (is_some (s.bounds i j)) 12 s
    (accepted (rebound s i j None))))

-- the number of what a list lacks to be an ordering of the events
abbrev pub lack : Misordered → ℕ
lack Count = 13
lack Outside = 14
lack Again = 15

abbrev pub ordered_by : State → Result (List ℕ) Misordered → Outcome
ordered_by s (Ok events) = accepted (reordered s events)
ordered_by s (Err why) = refused (lack why) s

-- arrange the events as the list has them, from rank 1 on
unfoldable pub arranged : List ℕ → State → Outcome
arranged list s = ordered_by s (orderings.arranged s.events list)

-- rank the events by fewest neighbours; never refused
unfoldable pub ranked : State → Outcome
ranked s = accepted (reordered s (ranking s.events (neighbours s.bounds) s.events))

-- the bound in force from i to j is told; an event has none to itself
unfoldable pub bound_told : (i j : ℕ) → State → Result (Option (List ℤ)) Reason
bound_told i j s = cond (both_events s i j) (Ok (s.bounds i j)) (Err (by 3))

-- a refused call leaves the whole net as it was, the rest of its table included
abbrev pub Untouched : {T E N : Type 0} → Result T E → N → N → Type 0
Untouched (Ok x) before after = Unit {0}
Untouched (Err e) before after = after ≡ before

-- what every net keeps to, from its making on
pub record Sound (A : Arithmetic) (s : State) : Type 0 where
  -- a bound in force joins two events of the net
  pub within : (i j : ℕ) (a : List ℤ) → s.bounds i j ≡ Some a → (i < s.events) × (j < s.events)
  -- it is an amount of the kind, and not over the limit
  pub amounts : (i j : ℕ) (a : List ℤ) → s.bounds i j ≡ Some a → Amount A a
  pub sized : (i j : ℕ) (a : List ℤ) → s.bounds i j ≡ Some a → A.size a ≤ most_size
  -- no event has a bound to itself
  pub apart : (i : ℕ) → s.bounds i i ≡ None

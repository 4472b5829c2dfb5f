-- An ordering as the list of its events from rank 1 to rank n, and which lists are one.
use Rattle.std.specs.Prelude.{ℕ, zero, suc, ◌-◌, Bool, false, cond, ◌&&◌, ◌||◌, List, [], ◌∷◌, length, Some, None, Ok, Err, Option, Result, ◌==◌, nat_le, nat_lt, slice_index}
use Rattle.order.specs.declared.event_order.EventOrder.{EventOrder}
use Rattle.order.specs.declared.event_order.Misordered.{Misordered}
use Rattle.order.specs.declared.event_order.Misordered.TheVariants.{Count, Outside, Again}

-- what stands at the m places from k on
unfoldable pub stretch : List ℕ → ℕ → ℕ → List ℕ
stretch xs k zero = []
stretch xs k (suc m) = slice_index xs k ∷ stretch xs (suc k) m

-- the events from rank 1 to rank n
abbrev pub events_of : EventOrder → List ℕ
events_of order = stretch order.events 0 order.count

-- the m numbers from k on
unfoldable pub numbers : ℕ → ℕ → List ℕ
numbers k zero = []
numbers k (suc m) = k ∷ numbers (suc k) m

-- 0, 1, up to n - 1
abbrev pub upto : ℕ → List ℕ
upto n = numbers 0 n

-- whether e is one of the events
abbrev pub among : List ℕ → ℕ → Bool
among [] e = false
among (x ∷ xs) e = e == x || among xs e

-- the event of a rank from 1 on
abbrev pub event_of_rank : List ℕ → ℕ → Option ℕ
event_of_rank events rank = cond (nat_lt 0 rank && nat_le rank (length events)) (Some (slice_index events (rank - 1))) None

abbrev pub one_higher : Option ℕ → Option ℕ
one_higher None = None
one_higher (Some rank) = Some (suc rank)

-- the rank, from 1 on, at which the event first stands
unfoldable pub rank_of_event : List ℕ → ℕ → Option ℕ
rank_of_event [] event = None
rank_of_event (x ∷ xs) event = cond (event == x) (Some 1) (one_higher (rank_of_event xs event))

-- the first event at fault: outside the n events, or one that stood earlier
unfoldable pub first_fault : ℕ → List ℕ → List ℕ → Option Misordered
first_fault n earlier [] = None
first_fault n earlier (x ∷ xs) = cond (nat_lt x n) (cond (among earlier x) (Some Again) (first_fault n (x ∷ earlier) xs)) (Some Outside)

-- why the list is no ordering of n events
abbrev pub misorder : ℕ → List ℕ → Option Misordered
misorder n list = cond (nat_le n 128 && length list == n) (first_fault n [] list) (Some Count)

abbrev pub unless : List ℕ → Option Misordered → Result (List ℕ) Misordered
unless list None = Ok list
unless list (Some why) = Err why

-- the list itself, or why it is no ordering of n events
abbrev pub arranged : ℕ → List ℕ → Result (List ℕ) Misordered
arranged n list = unless list (misorder n list)

-- an answer with the ordering as its list
abbrev pub told : Result EventOrder Misordered → Result (List ℕ) Misordered
told (Ok order) = Ok (events_of order)
told (Err why) = Err why

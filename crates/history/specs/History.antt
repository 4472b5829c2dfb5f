-- Which calls are accepted, and the bounds in force after them.
-- `past`: the accepted calls, the newest first; an accepted read counts as its sheet's calls in order.
use Rattle.std.specs.Prelude.{◌≡◌, ℕ, ◌<◌, ◌≤◌, Bool, true, false, ◌≢◌, ◌⊎◌, List, [], ◌∷◌, length, ℤ, Some, None}
use Rattle.kinds.specs.Arithmetic.{Arithmetic, AtMost}
use Rattle.walks.specs.Walks.{Member, UnderZero, Schedule}
use Rattle.net.specs.Limits.{most_events, cells_needed, most_size}
use Rattle.history.specs.Deeds.{Deed, Action, Answer, Entry, accepted, refused}
use Rattle.history.specs.Deeds.Deed.{begin, require, withdraw, arrange, rank, close}
use Rattle.history.specs.Deeds.Action.{does, reads}
use Rattle.history.specs.Deeds.Entry.{call, fault}

-- the number of events: that of the last begin
abbrev pub events : List Deed → ℕ
events [] = 0
events (begin n ∷ past) = n
events (require i j w ∷ past) = events past
events (withdraw i j ∷ past) = events past
events (arrange list ∷ past) = events past
events (rank ∷ past) = events past
events (close place ∷ past) = events past

-- the net is closed: the newest accepted call is a close
abbrev pub closed : List Deed → Bool
closed [] = false
closed (begin n ∷ past) = false
closed (require i j w ∷ past) = false
closed (withdraw i j ∷ past) = false
closed (arrange list ∷ past) = false
closed (rank ∷ past) = false
closed (close place ∷ past) = true

-- the call is a begin, or the withdrawal of the pair
abbrev pub Ends : Deed → ℕ → ℕ → Type 0
Ends (begin n) i j = Unit {0}
Ends (require a b w) i j = ⊥
Ends (withdraw a b) i j = (a ≡ i) × (b ≡ j)
Ends (arrange list) i j = ⊥
Ends rank i j = ⊥
Ends (close place) i j = ⊥

-- w was accepted for the pair since the last accepted begin or withdrawal of the pair
abbrev pub Laid : List Deed → ℕ → ℕ → List ℤ → Type 0
Laid [] i j w = ⊥
Laid (d ∷ past) i j w = (d ≡ require i j w) ⊎ (¬ (Ends d i j) × Laid past i j w)

-- the bound in force from i to j is the least of these
pub record InForce (A : Arithmetic) (past : List Deed) (i j : ℕ) (w : List ℤ) : Type 0 where
  pub laid : Laid past i j w
  pub least : (v : List ℤ) → Laid past i j v → AtMost A w v

-- a closed net has no loop under zero
abbrev pub Calm : Arithmetic → List Deed → Type 0
Calm A past = closed past ≡ true → (loop : List ℕ) → ¬ (UnderZero A (InForce A past) loop)

-- what a call asks, and the number that refuses it without
pub record Need : Type 1 where
  pub number : ℕ
  pub asks : Type 0

abbrev pub need : ℕ → Type 0 → Need
need number asks = record { number = number; asks = asks }

-- the first need that is not met refuses; with each met the call is accepted
abbrev pub First : List Need → Answer → Type 0
First [] None = Unit {0}
First [] (Some number) = ⊥
First (n ∷ ns) None = n.asks × First ns accepted
First (n ∷ ns) (Some number) = (¬ n.asks × (number ≡ n.number)) ⊎ (n.asks × First ns (refused number))

-- both are events of the net
abbrev pub Both : List Deed → ℕ → ℕ → Type 0
Both past i j = (i < events past) × (j < events past)

-- place by place: an event of the net, and none that stood earlier
abbrev pub places : ℕ → List ℕ → List ℕ → List Need
places n earlier [] = []
places n earlier (x ∷ xs) = need 14 (x < n) ∷ need 15 (¬ (Member x earlier)) ∷ places n (x ∷ earlier) xs

-- what each call asks, over a table of that many cells
abbrev pub needs : Arithmetic → (cells : ℕ) → List Deed → Deed → List Need
needs A cells past (begin n) = need 1 ((1 ≤ n) × (n ≤ most_events)) ∷ need 2 (cells_needed n ≤ cells) ∷ []
needs A cells past (require i j w) = need 3 (Both past i j) ∷ need 4 (i ≢ j) ∷ need 11 (A.size w ≤ most_size) ∷ []
needs A cells past (withdraw i j) = need 3 (Both past i j) ∷ need 4 (i ≢ j) ∷ need 12 ((w : List ℤ) × InForce A past i j w) ∷ []
needs A cells past (arrange list) = need 13 (length list ≡ events past) ∷ places (events past) [] list
needs A cells past rank = []
needs A cells past (close place) = need 5 (events past ≤ place) ∷ need 16 (Schedule A (InForce A past)) ∷ []

-- `sheet`: what the records of a sheet say, in its order up to its first fault
module _ (A : Arithmetic) (sheet : List ℕ → List Entry) (cells : ℕ) where
  -- a sheet's calls in turn, up to the first that is at fault
  pub data Reading : List Deed → List Entry → Answer → List Deed → Type 0 where
    whole : {past : List Deed} → Reading past [] accepted past
    further : {past after : List Deed} {d : Deed} {entries : List Entry} {answer : Answer} → First (needs A cells past d) accepted → Reading (d ∷ past) entries answer after → Reading past (call d ∷ entries) answer after
    stopped : {past : List Deed} {d : Deed} {entries : List Entry} {number : ℕ} → First (needs A cells past d) (refused number) → Reading past (call d ∷ entries) (refused number) past
    faulty : {past : List Deed} {entries : List Entry} {number : ℕ} → Reading past (fault number ∷ entries) (refused number) past

  -- a call, how it ends, and the past after it: a refused call counts as none
  pub data Step (past : List Deed) : Action → Answer → List Deed → Type 0 where
    taken : {d : Deed} → First (needs A cells past d) accepted → Step past (does d) accepted (d ∷ past)
    turned_down : {d : Deed} {number : ℕ} → First (needs A cells past d) (refused number) → Step past (does d) (refused number) past
    sheet_taken : {bytes : List ℕ} {after : List Deed} → Reading past (sheet bytes) accepted after → Step past (reads bytes) accepted after
    sheet_turned_down : {bytes : List ℕ} {number : ℕ} {part : List Deed} → Reading past (sheet bytes) (refused number) part → Step past (reads bytes) (refused number) past

  -- the calls made on a net from its making on, how each ended, and the past: all with the newest first
  pub data History : List Action → List Answer → List Deed → Type 0 where
    start : History [] [] []
    next : {calls : List Action} {answers : List Answer} {past after : List Deed} {c : Action} {answer : Answer} → History calls answers past → Step past c answer after → History (c ∷ calls) (answer ∷ answers) after

-- the answers noted one by one in the slots for them, as far as there are slots
abbrev pub noted : {T : Type 0} → List T → List T → List T
noted [] slots = slots
noted (answer ∷ answers) [] = []
noted (answer ∷ answers) (slot ∷ slots) = answer ∷ noted answers slots

-- no call was refused by a contradiction
abbrev pub Uncontradicted : List Answer → Type 0
Uncontradicted [] = Unit {0}
Uncontradicted (answer ∷ answers) = (answer ≢ refused 16) × Uncontradicted answers

-- Distances, contradiction, times and windows, computed.
use Rattle.std.specs.Prelude.{ℕ, zero, suc, Bool, true, false, not, List, ℤ, Some, None, Option, ◌==◌}
use Rattle.kinds.specs.Answers.{pick}
use Rattle.kinds.specs.Arithmetic.{Arithmetic}
use Rattle.walks.specs.Bounds.{Bounds}

-- some number below n passes the test
abbrev pub some_below : ℕ → (ℕ → Bool) → Bool
some_below zero f = false
some_below (suc n) f = pick (some_below n f) true (f n)

module _ (A : Arithmetic) where
  -- none with anything is none
  abbrev pub added : Option (List ℤ) → Option (List ℤ) → Option (List ℤ)
  added None y = None
  added (Some a) None = None
  added (Some a) (Some b) = Some (A.plus a b)

  -- the lesser of two, where there are two
  abbrev pub lesser : Option (List ℤ) → Option (List ℤ) → Option (List ℤ)
  lesser None y = y
  lesser (Some a) None = Some a
  lesser (Some a) (Some b) = pick (A.at_most a b) (Some a) (Some b)

  -- the least of f 0, f 1, up to f (n - 1)
  abbrev pub least : ℕ → (ℕ → Option (List ℤ)) → Option (List ℤ)
  least zero f = None
  least (suc n) f = lesser (least n f) (f n)

  -- the walk of no bound
  abbrev pub stay : ℕ → ℕ → Option (List ℤ)
  stay i j = pick (i == j) (Some A.zero) None

  -- the least sum of the walks from i to j of at most m bounds, over the events below n
  abbrev pub best : ℕ → Bounds → ℕ → ℕ → ℕ → Option (List ℤ)
  best n F zero i j = stay i j
  best n F (suc m) i j = lesser (stay i j) (least n (λ k. added (F i k) (best n F m k j)))

  -- the distance: no walk that repeats no event has more than n bounds
  abbrev pub distance : ℕ → Bounds → ℕ → ℕ → Option (List ℤ)
  distance n F i j = best n F n i j

  -- less than zero
  abbrev pub negative : Option (List ℤ) → Bool
  negative None = false
  negative (Some a) = not (A.at_most A.zero a)

  -- some event comes back to itself by less than zero
  abbrev pub contradictory : ℕ → Bounds → Bool
  contradictory n F = some_below n (λ i. negative (distance n F i i))

  -- the time of j: the least of all distances to j
  abbrev pub time : ℕ → Bounds → ℕ → Option (List ℤ)
  time n F j = least n (λ i. distance n F i j)

-- the opposite of an amount that may be none
abbrev pub opposite : (List ℤ → List ℤ) → Option (List ℤ) → Option (List ℤ)
opposite minus None = None
opposite minus (Some a) = Some (minus a)

-- the two ends for the time of j minus the time of i
abbrev pub window : Arithmetic → (List ℤ → List ℤ) → ℕ → Bounds → ℕ → ℕ → Option (List ℤ) × Option (List ℤ)
window A minus n F i j = (opposite minus (distance A n F j i), distance A n F i j)

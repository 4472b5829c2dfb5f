-- What is claimed of the computed definitions, for every lawful arithmetic and all bounds in force.
use Rattle.std.specs.Prelude.{◌≡◌, ℕ, ◌*◌, ◌<◌, ◌≤◌, true, false, ◌↔◌, List, length, ℤ, Some, Option}
use Rattle.kinds.specs.Arithmetic.{Arithmetic, Amount, AtMost, Lawful, Inverse}
use Rattle.walks.specs.Bounds.{Bounds, InForce, Within, Sized}
use Rattle.walks.specs.Walks.{Route, UnderZero, Loop, Schedule, Told, Window}
use Rattle.walks.specs.Least.{distance, contradictory, time, window}

-- contradictory exactly if some walk comes back by less than zero, and then one does that names no event twice
abbrev pub ContradictionIsLoop : Type 0
ContradictionIsLoop = (A : Arithmetic) → Lawful A → (n : ℕ) (F : Bounds) → Within A n F →
    ((contradictory A n F ≡ true) ↔ ((events : List ℕ) × UnderZero A (InForce F) events)) ×
    ((contradictory A n F ≡ true) ↔ ((events : List ℕ) × Loop A (InForce F) events))

-- contradictory exactly if no schedule keeps every bound in force
abbrev pub ContradictionIsNoSchedule : Type 0
ContradictionIsNoSchedule = (A : Arithmetic) → Lawful A → (minus : List ℤ → List ℤ) → Inverse A minus → (n : ℕ) (F : Bounds) → Within A n F →
    ((contradictory A n F ≡ false) ↔ Schedule A (InForce F)) × ((contradictory A n F ≡ true) ↔ ¬ (Schedule A (InForce F)))

-- without contradiction the computed distance is what a distance says, and nothing else is
abbrev pub DistanceIsLeast : Type 0
DistanceIsLeast = (A : Arithmetic) → Lawful A → (n : ℕ) (F : Bounds) → Within A n F → contradictory A n F ≡ false →
    (i j : ℕ) (d : Option (List ℤ)) → Told A (InForce F) i j d ↔ (d ≡ distance A n F i j)

-- what distances keep: zero to itself, the triangle, and each bound
pub record Metric (A : Arithmetic) (n : ℕ) (F : Bounds) : Type 0 where
  pub amounts : (i j : ℕ) (a : List ℤ) → distance A n F i j ≡ Some a → Amount A a
  pub self : (i : ℕ) → distance A n F i i ≡ Some A.zero
  pub triangle : (i k j : ℕ) (a b : List ℤ) → distance A n F i k ≡ Some a → distance A n F k j ≡ Some b → (c : List ℤ) × (distance A n F i j ≡ Some c) × AtMost A c (A.plus a b)
  pub edge : (i k j : ℕ) (a w : List ℤ) → distance A n F i k ≡ Some a → F k j ≡ Some w → (c : List ℤ) × (distance A n F i j ≡ Some c) × AtMost A c (A.plus a w)

abbrev pub DistancesAreMetric : Type 0
DistancesAreMetric = (A : Arithmetic) → Lawful A → (n : ℕ) (F : Bounds) → Within A n F → contradictory A n F ≡ false → Metric A n F

-- a distance is the sum of at most n bounds, so at most n times as large as one may be
abbrev pub DistancesAreSmall : Type 0
DistancesAreSmall = (A : Arithmetic) → Lawful A → (n : ℕ) (F : Bounds) → Within A n F → (most : ℕ) → Sized A most F →
    (i j : ℕ) (d : List ℤ) → distance A n F i j ≡ Some d → A.size d ≤ n * most

-- without contradiction a distance is the sum of a walk that names no event twice, and so at most n
abbrev pub DistanceHasRoute : Type 0
DistanceHasRoute = (A : Arithmetic) → Lawful A → (n : ℕ) (F : Bounds) → Within A n F → contradictory A n F ≡ false →
    (i j : ℕ) (d : List ℤ) → distance A n F i j ≡ Some d → (events : List ℕ) × Route A (InForce F) i j events d × (i < n → length events ≤ n)

-- without contradiction the times are a schedule
pub record Scheduled (A : Arithmetic) (n : ℕ) (F : Bounds) : Type 0 where
  pub schedule : Schedule A (InForce F)
  pub times : (j : ℕ) → j < n → time A n F j ≡ Some (schedule.time j)

abbrev pub TimesAreSchedule : Type 0
TimesAreSchedule = (A : Arithmetic) → Lawful A → (n : ℕ) (F : Bounds) → Within A n F → contradictory A n F ≡ false → Scheduled A n F

-- without contradiction the computed window is the window
abbrev pub WindowsAreExact : Type 0
WindowsAreExact = (A : Arithmetic) → Lawful A → (minus : List ℤ → List ℤ) → Inverse A minus → (n : ℕ) (F : Bounds) → Within A n F → contradictory A n F ≡ false →
    (i j : ℕ) → Window A (InForce F) i j (window A minus n F i j)

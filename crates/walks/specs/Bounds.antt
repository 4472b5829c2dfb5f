-- The bounds in force among the events of a net, as amounts.
use Rattle.std.specs.Prelude.{◌≡◌, ℕ, ◌<◌, ◌≤◌, List, ℤ, Some, None, Option}
use Rattle.kinds.specs.Arithmetic.{Arithmetic, Amount}

-- from each event to each other: the amount of the bound in force, or none
abbrev pub Bounds : Type 0
Bounds = ℕ → ℕ → Option (List ℤ)

-- a bound of amount a is in force from i to j
abbrev pub InForce : Bounds → ℕ → ℕ → List ℤ → Type 0
InForce F i j a = F i j ≡ Some a

-- every bound joins events below n, and is an amount
pub record Within (A : Arithmetic) (n : ℕ) (F : Bounds) : Type 0 where
  pub below : (i j : ℕ) (a : List ℤ) → F i j ≡ Some a → (i < n) × (j < n)
  pub amounts : (i j : ℕ) (a : List ℤ) → F i j ≡ Some a → Amount A a

-- no event has a bound to itself
abbrev pub Apart : Bounds → Type 0
Apart F = (i : ℕ) → F i i ≡ None

-- no bound is of more than this size
abbrev pub Sized : Arithmetic → ℕ → Bounds → Type 0
Sized A most F = (i j : ℕ) (a : List ℤ) → F i j ≡ Some a → A.size a ≤ most

-- the amount of a bound that may be none
abbrev pub amount_of : {K : Type 0} → (K → List ℤ) → Option K → Option (List ℤ)
amount_of amount None = None
amount_of amount (Some w) = Some (amount w)

-- the amounts of bounds of a kind
abbrev pub amounts_of : {K : Type 0} → (K → List ℤ) → (ℕ → ℕ → Option K) → Bounds
amounts_of amount G i j = amount_of amount (G i j)

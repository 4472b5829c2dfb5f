-- The least sums, and how each was put together.
use Rattle.std.specs.Prelude.{◌≡◌, ℕ, ◌<◌, max, ◌≢◌, List, ℤ, Some, None, Option}
use Rattle.kinds.specs.Arithmetic.{Arithmetic}
use Rattle.table.specs.declared.cell.Cell.{Cell}
use Rattle.eliminator.specs.Views.{Grid}
use Rattle.sweeper.specs.declared.least.Least.{Least}

-- a least sum for each two ranks
abbrev pub Leasts : Type 0 → Type 0
Leasts K = ℕ → ℕ → Least K

-- the least sums that the cells hold
abbrev pub least_of : {K : Type 0} → Cell K → Least K
least_of c = record { sum = c.distance; by = c.by }

abbrev pub leasts : {K : Type 0} → Grid K → Leasts K
leasts xs i j = least_of (xs i j)

abbrev pub Sums : {K : Type 0} → (K → List ℤ) → ℕ → Leasts K → ℕ → ℕ → List ℤ → Type 0
Sums {K} amount n ds i j a = (i < n) × (j < n) × ((b : K) × ((ds i j).sum ≡ Some b) × (a ≡ amount b))

pub record Leads {K : Type 0} (n : ℕ) (ds : Leasts K) (i j m : ℕ) : Type 0 where
  pub by_is : (ds i j).by ≡ Some m
  pub off_i : m ≢ i
  pub off_j : m ≢ j
  pub two : i ≢ j
  pub low : m < max i j

-- the two parts of a least sum
pub record Parts {K : Type 0} (A : Arithmetic) (amount : K → List ℤ) (s y z : Option K) : Type 0 where
  pub front : K
  pub back : K
  pub sum : K
  pub front_is : y ≡ Some front
  pub back_is : z ≡ Some back
  pub sum_is : s ≡ Some sum
  pub adds : amount sum ≡ A.plus (amount front) (amount back)

-- each least sum is a worked bound, or put together
pub record Led {K : Type 0} (A : Arithmetic) (amount : K → List ℤ) (n : ℕ) (xs : Grid K) (ds : Leasts K) : Type 0 where
  pub plain : (i j : ℕ) → i < n → j < n → i ≢ j → (ds i j).by ≡ None → (ds i j).sum ≡ (xs i j).worked
  pub leads : (i j m : ℕ) → i < n → j < n → i ≢ j → (ds i j).by ≡ Some m → Leads n ds i j m
  pub ahead : (i j m : ℕ) → i < j → j < n → (ds i j).by ≡ Some m → Parts A amount (ds i j).sum (ds i m).sum (xs m j).worked
  pub back : (i j m : ℕ) → j < i → i < n → (ds i j).by ≡ Some m → Parts A amount (ds i j).sum (xs i m).worked (ds m j).sum

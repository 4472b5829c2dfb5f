-- What the cells hold as the elimination goes on.
use Rattle.std.specs.Prelude.{◌≡◌, ℕ, suc, ◌+◌, ◌^◌, ◌<◌, ◌≤◌, true, ◌≢◌, List, ℤ, Some, None, Ok, Err, Option, Result}
use Rattle.kinds.specs.Arithmetic.{Arithmetic, AtMost, Lawful}
use Rattle.marks.specs.declared.set.Marks.{Marks}
use Rattle.marks.specs.Sets.{has}
use Rattle.elimination.specs.Walks.{Kept}
use Rattle.elimination.specs.Held.{nil, plus, le}
use Rattle.eliminator.specs.declared.eliminate.Failing.{Failing}
use Rattle.eliminator.specs.Views.{Grid}

-- the bound a is in force from i to j, or was worked out
abbrev pub Forced : {K : Type 0} → (K → List ℤ) → ℕ → Grid K → ℕ → ℕ → List ℤ → Type 0
Forced {K} amount n xs i j a = (i < n) × (j < n) × ((b : K) × ((xs i j).bound ≡ Some b) × (a ≡ amount b))

abbrev pub Works : {K : Type 0} → (K → List ℤ) → ℕ → Grid K → ℕ → ℕ → List ℤ → Type 0
Works {K} amount n xs i j a = (i < n) × (j < n) × ((b : K) × ((xs i j).worked ≡ Some b) × (a ≡ amount b))

abbrev pub SameForce : {K : Type 0} → ℕ → Grid K → Grid K → Type 0
SameForce n xs ys = (i j : ℕ) → i < n → j < n → (ys i j).bound ≡ (xs i j).bound

-- as it is before the work
pub record Ready {K : Type 0} (A : Arithmetic) (amount : K → List ℤ) (n : ℕ) (xs : Grid K) : Type 0 where
  pub fresh : (i j : ℕ) → i < n → j < n → (xs i j).worked ≡ (xs i j).bound
  pub plain : (i j : ℕ) → i < n → j < n → (xs i j).via ≡ None
  pub calm : (i : ℕ) → i < n → (xs i i).bound ≡ None
  pub small : (i j : ℕ) (b : K) → i < n → j < n → (xs i j).bound ≡ Some b → A.size (amount b) ≤ 2 ^ 40

-- the worked bound from i to j is the sum of those by v
pub record Split {K : Type 0} (A : Arithmetic) (amount : K → List ℤ) (n lo : ℕ) (xs : Grid K) (i j v : ℕ) : Type 0 where
  pub low_i : i < v
  pub low_j : j < v
  pub past : lo ≤ v
  pub within : v < n
  pub front : K
  pub back : K
  pub sum : K
  pub front_is : (xs i v).worked ≡ Some front
  pub back_is : (xs v j).worked ≡ Some back
  pub sum_is : (xs i j).worked ≡ Some sum
  pub adds : amount sum ≡ A.plus (amount front) (amount back)

-- each worked bound is in force, or split; the events below lo have split none
pub record Traced {K : Type 0} (A : Arithmetic) (amount : K → List ℤ) (n lo : ℕ) (xs : Grid K) : Type 0 where
  pub plain : (i j : ℕ) → i < n → j < n → i ≢ j → (xs i j).via ≡ None → (xs i j).worked ≡ (xs i j).bound
  pub split : (i j v : ℕ) → i < n → j < n → i ≢ j → (xs i j).via ≡ Some v → Split A amount n lo xs i j v

-- the events from k on are gone
pub record Stage {K : Type 0} {A : Arithmetic} (L : Lawful A) (amount : K → List ℤ) (n k : ℕ) (xs ys : Grid K) : Type 0 where
  pub traced : Traced A amount n k ys
  pub kept : Kept (nil L) (plus L) (le A) (λ i j a. Forced amount n xs i j a.0) n k (λ i j a. Works amount n ys i j a.0)

-- two bounds that sum to less than zero
pub record Falls {K : Type 0} (A : Arithmetic) (amount : K → List ℤ) (y z : Option K) : Type 0 where
  pub front : K
  pub back : K
  pub front_is : y ≡ Some front
  pub back_is : z ≡ Some back
  pub negative : AtMost A A.zero (A.plus (amount front) (amount back)) → ⊥

abbrev pub Bears : {K : Type 0} → (A : Arithmetic) → (K → List ℤ) → Option K → Option K → Type 0
Bears {K} A amount y z = (b c : K) → y ≡ Some b → z ≡ Some c → A.size (amount b) + A.size (amount c) ≤ 2 ^ 60 → AtMost A A.zero (A.plus (amount b) (amount c))

-- of the lower neighbours of rank k the one told falls, or none does
abbrev pub FirstFailing : {K : Type 0} → (A : Arithmetic) → (K → List ℤ) → Grid K → Marks → ℕ → Option ℕ → Type 0
FirstFailing A amount xs mine k None = (i : ℕ) → has mine i ≡ true → Bears A amount (xs i k).worked (xs k i).worked
FirstFailing A amount xs mine k (Some i) = (has mine i ≡ true) × Falls A amount (xs i k).worked (xs k i).worked

pub record Failed {K : Type 0} (A : Arithmetic) (amount : K → List ℤ) (n i k : ℕ) (xs ys : Grid K) : Type 0 where
  pub low : i < k
  pub within : k < n
  pub falls : Falls A amount (ys i k).worked (ys k i).worked
  pub stage : (L : Lawful A) → Ready A amount n xs → Stage L amount n (suc k) xs ys

abbrev pub Outcome : {K : Type 0} → (A : Arithmetic) → (K → List ℤ) → ℕ → Grid K → Grid K → Result (Unit {0}) Failing → Type 0
Outcome A amount n xs ys (Ok _) = (L : Lawful A) → Ready A amount n xs → Stage L amount n 0 xs ys
Outcome A amount n xs ys (Err pair) = Failed A amount n pair.low pair.high xs ys

-- The sweep.
use Rattle.std.specs.Prelude.{◌≡◌, ℕ, ◌+◌, ◌^◌, ◌<◌, ◌≤◌, ◌≢◌, ◌⊎◌, List, length, ℤ, Some, None, Option, slice_index}
use Rattle.kinds.specs.Arithmetic.{Arithmetic, AtMost, Lawful}
use Rattle.elimination.specs.Held.{Held, nil, plus, le}
use Rattle.elimination.specs.Walks as theory
use Rattle.eliminator.specs.Views.{Grid}
use Rattle.eliminator.specs.State.{Forced, Ready, Stage}
use Rattle.sweeper.specs.declared.least.Least.{Least}
use Rattle.sweeper.specs.Sums.{Leasts, least_of, leasts, Sums, Parts, Led}

-- r is the least of d and the sums of f and g over the ranks of S but skip
pub record Best {K : Type 0} (A : Arithmetic) (amount : K → List ℤ) (S : ℕ → Type 0) (skip : ℕ) (d : Option K) (f g : ℕ → Option K) (r : Least K) : Type 0 where
  pub plain : r.by ≡ None → r.sum ≡ d
  pub parts : (j : ℕ) → r.by ≡ Some j → S j × (j ≢ skip) × Parts A amount r.sum (f j) (g j)
  pub keeps : (a : K) → d ≡ Some a → (b : K) × (r.sum ≡ Some b) × AtMost A (amount b) (amount a)
  pub tries : (j : ℕ) (b c : K) → S j → j ≢ skip → f j ≡ Some b → g j ≡ Some c → A.size (amount b) + A.size (amount c) ≤ 2 ^ 60 → (a : K) × (r.sum ≡ Some a) × AtMost A (amount a) (A.plus (amount b) (amount c))

-- what a rule answers of each of the ranks: the parts f and g of the sum by it
abbrev pub Tells : {K : Type 0} → (ℕ → Option K × Option K → Type 0) → List ℕ → (ℕ → Option K) → (ℕ → Option K) → Type 0
Tells {K} rule ranks f g = (t : ℕ) (r : Option K × Option K) → t < length ranks → rule (slice_index ranks t) r → (r.0 ≡ f (slice_index ranks t)) × (r.1 ≡ g (slice_index ranks t))

module _ {K : Type 0} (A : Arithmetic) (amount : K → List ℤ) where
  -- the least sum from i to k, and from k to i, over the ranks of S
  abbrev pub BestInto : (ℕ → Type 0) → ℕ → ℕ → Grid K → Least K → Type 0
  BestInto S k i xs r = Best A amount S i (xs i k).worked (λ q. (xs i q).distance) (λ q. (xs q k).worked) r

  abbrev pub BestOut : (ℕ → Type 0) → ℕ → ℕ → Grid K → Least K → Type 0
  BestOut S k i xs r = Best A amount S i (xs k i).worked (λ q. (xs k q).worked) (λ q. (xs q i).distance) r

-- what the elimination left is the same
abbrev pub SameWork : {K : Type 0} → ℕ → Grid K → Grid K → Type 0
SameWork n xs ys = (i j : ℕ) → i < n → j < n → ((ys i j).bound ≡ (xs i j).bound) × ((ys i j).worked ≡ (xs i j).worked) × ((ys i j).via ≡ (xs i j).via)

-- one distance was written
pub record Settles {K : Type 0} (n r s : ℕ) (least : Least K) (xs ys : Grid K) : Type 0 where
  pub here : least_of (ys r s) ≡ least
  pub elsewhere : (x y : ℕ) → x < n → y < n → ((x ≡ r) × (y ≡ s) → ⊥) → least_of (ys x y) ≡ least_of (xs x y)
  pub work : SameWork n xs ys

-- the distances between i and k, both ways, were written
pub record Paired {K : Type 0} (A : Arithmetic) (amount : K → List ℤ) (n k i : ℕ) (S : ℕ → Type 0) (xs ys : Grid K) : Type 0 where
  pub into : Best A amount S i (xs i k).worked (λ q. (xs i q).distance) (λ q. (xs q k).worked) (least_of (ys i k))
  pub out : Best A amount S i (xs k i).worked (λ q. (xs k q).worked) (λ q. (xs q i).distance) (least_of (ys k i))
  pub elsewhere : (x y : ℕ) → x < n → y < n → ((x ≡ i) × (y ≡ k) → ⊥) → ((x ≡ k) × (y ≡ i) → ⊥) → least_of (ys x y) ≡ least_of (xs x y)
  pub work : SameWork n xs ys

module _ {K : Type 0} (A : Arithmetic) (amount : K → List ℤ) (n : ℕ) (xs : Grid K) where
  abbrev pub Into : Leasts K → ℕ → ℕ → Least K → Type 0
  Into ds x y r = Best A amount (λ q. q < y) x (xs x y).worked (λ q. (ds x q).sum) (λ q. (xs q y).worked) r

  abbrev pub Out : Leasts K → ℕ → ℕ → Least K → Type 0
  Out ds x y r = Best A amount (λ q. q < x) y (xs x y).worked (λ q. (xs x q).worked) (λ q. (ds q y).sum) r

  -- the sums among the ranks below k, and those of k with the first i
  pub record Done (k i : ℕ) (ds : Leasts K) : Type 0 where
    pub into : (x y : ℕ) → x < y → (y < k) ⊎ ((y ≡ k) × (x < i)) → Into ds x y (ds x y)
    pub out : (x y : ℕ) → y < x → (x < k) ⊎ ((x ≡ k) × (y < i)) → Out ds x y (ds x y)
    pub selves : (x : ℕ) → x < k → (z : K) × ((ds x x).sum ≡ Some z) × (amount z ≡ A.zero)

-- the sums as a table, with zero from each rank to itself
abbrev pub Table : {K : Type 0} {A : Arithmetic} → Lawful A → (K → List ℤ) → ℕ → Leasts K → ℕ → ℕ → Held A → Type 0
Table {A = A} L amount n ds i j a = ((i ≡ j) × (a ≡ nil L)) ⊎ ((i ≢ j) × Sums amount n ds i j a.0)

pub record Summed {K : Type 0} (A : Arithmetic) (amount : K → List ℤ) (n : ℕ) (xs : Grid K) (ds : Leasts K) : Type 0 where
  pub led : Led A amount n xs ds
  pub swept : (L : Lawful A) (us : Grid K) → Ready A amount n us → Stage L amount n 0 us xs → theory.Swept (nil L) (plus L) (le A) (λ i j a. Forced amount n us i j a.0) n (Table L amount n ds)
  pub selves : (x : ℕ) → x < n → (z : K) × ((ds x x).sum ≡ Some z) × (amount z ≡ A.zero)

-- after the sweep
pub record Swept {K : Type 0} (A : Arithmetic) (amount : K → List ℤ) (n : ℕ) (xs ys : Grid K) : Type 0 where
  pub work : SameWork n xs ys
  pub summed : Summed A amount n xs (leasts ys)

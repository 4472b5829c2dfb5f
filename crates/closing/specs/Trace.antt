-- The walk behind a worked bound, and the loop that is shown.
use Rattle.std.specs.Prelude.{◌≡◌, ℕ, ◌<◌, ◌≤◌, ◌≢◌, List, [], ◌∷◌, ℤ, Some}
use Rattle.std.specs.Coded.{×_prop, →_prop, Unit-prop, le_prop}
use Rattle.std.proofs.Math.Decide.{ℕ_discrete}
use Rattle.kinds.specs.Arithmetic.{Arithmetic, Lawful}
use Rattle.elimination.specs.Walks.{Walk, Any}
use Rattle.elimination.specs.Simple.{Member, Distinct, Row}
use Rattle.elimination.specs.Held.{Held, nil, plus, le}
use Rattle.eliminator.specs.Views.{Grid}
use Rattle.eliminator.specs.State.{Forced, Works, Traced}

-- events below n, none named twice
pub record Names (n : ℕ) (vs : List ℕ) : Type 0 where
  pub once : Distinct vs
  pub below : (x : ℕ) → Member x vs → x < n

distinct_prop : (vs : List ℕ) → IsProp (Distinct vs)
distinct_prop [] = Unit-prop
distinct_prop (x ∷ xs) = ×_prop (→_prop (λ (a b : ⊥). absurd a)) (distinct_prop xs)

pub names_prop : (n : ℕ) (vs : List ℕ) → IsProp (Names n vs)
names_prop n vs p q = λ i. record { once = distinct_prop vs p.once q.once i; below = λ x m. le_prop (p.below x m) (q.below x m) i }

abbrev pub choose : {P : Type 0} → Dec P → List ℕ → List ℕ → List ℕ
choose (yes p) x y = x
choose (no p) x y = y

-- the events up to v, where that is named; else all of them, and v
abbrev pub pushed : List ℕ → ℕ → List ℕ
pushed [] v = v ∷ []
pushed (x ∷ xs) v = choose (ℕ_discrete x v) (x ∷ []) (x ∷ pushed xs v)

module _ {K : Type 0} {A : Arithmetic} (L : Lawful A) (amount : K → List ℤ) (n lo : ℕ) (xs : Grid K) where
  -- a bound in force, to an event from lo on
  abbrev pub Leg : ℕ → ℕ → Held A → Type 0
  Leg x y a = Forced amount n xs x y a.0 × (lo ≤ y)

  -- the loops over them sum to zero at least
  abbrev pub Calm : Type 0
  Calm = (x : ℕ) (s : Held A) → Walk (plus L) Leg Any x x s → le A (nil L) s

  abbrev pub Rows : ℕ → List ℕ → ℕ → Held A → Type 0
  Rows = Row (nil L) (plus L) Leg

-- a row that ended at i, and now ends at j, after the bound that was worked out from i to j
abbrev pub Onward : {K : Type 0} → (A : Arithmetic) → (K → List ℤ) → ℕ → Grid K → ℕ → ℕ → List ℕ → List ℕ → Type 0
Onward A amount n xs i j vs ws =
    (L : Lawful A) (lo hi a : ℕ) (s c : Held A) → Traced A amount n hi xs → Calm L amount n lo xs → i ≢ j → lo ≤ j →
    Works amount n xs i j c.0 → Rows L amount n lo xs a vs i s → (t : Held A) × Rows L amount n lo xs a ws j t × le A t (plus L s c)

-- where the walk behind the bound from i to j is split
pub record Splits {K : Type 0} (n : ℕ) (xs : Grid K) (i j v : ℕ) : Type 0 where
  pub via_is : (xs i j).via ≡ Some v
  pub low_i : i < v
  pub low_j : j < v
  pub within : v < n

-- a loop of bounds in force that sums to less than zero
pub record Shown {K : Type 0} {A : Arithmetic} (L : Lawful A) (amount : K → List ℤ) (n : ℕ) (xs : Grid K) (vs : List ℕ) : Type 0 where
  pub first : ℕ
  pub last : ℕ
  pub sum : Held A
  pub back : Held A
  pub row : Row (nil L) (plus L) (λ x y (a : Held A). Forced amount n xs x y a.0) first vs last sum
  pub once : Distinct vs
  pub closes : Forced amount n xs last first back.0
  pub negative : le A (nil L) (plus L sum back) → ⊥

-- what comes of the failing pair i, k, where vs is written
abbrev pub Shows : {K : Type 0} → (A : Arithmetic) → (K → List ℤ) → ℕ → Grid K → ℕ → ℕ → List ℕ → Type 0
Shows A amount n xs i k vs =
    (L : Lawful A) (hi : ℕ) (c d : Held A) → Traced A amount n hi xs → Calm L amount n k xs → Works amount n xs i k c.0 → Works amount n xs k i d.0 → (le A (nil L) (plus L c d) → ⊥) → Shown L amount n xs vs

-- the same, where the row has come to x
abbrev pub Partway : {K : Type 0} → (A : Arithmetic) → (K → List ℤ) → ℕ → Grid K → ℕ → ℕ → ℕ → List ℕ → Type 0
Partway A amount n xs i k x vs =
    (L : Lawful A) (hi : ℕ) (c d : Held A) → Traced A amount n hi xs → Calm L amount n k xs → Works amount n xs i k c.0 → Works amount n xs k i d.0 →
    (t : Held A) × (e : Held A) × Rows L amount n k xs i vs x t × Works amount n xs x i e.0 × le A (plus L t e) (plus L c d)

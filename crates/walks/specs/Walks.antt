-- Walks, loops, schedules, distances and windows, in the words of the subject.
-- E i j a: a bound of amount a is in force from i to j.
use Rattle.std.specs.Prelude.{◌≡◌, ℕ, false, ◌⊎◌, ◌↔◌, List, [], ◌∷◌, ◌++◌, ℤ, Some, None, Option}
use Rattle.kinds.specs.Arithmetic.{Arithmetic, Amount, AtMost}

abbrev pub Member : ℕ → List ℕ → Type 0
Member x [] = ⊥
Member x (y ∷ ys) = (x ≡ y) ⊎ Member x ys

-- no event is named twice
abbrev pub Distinct : List ℕ → Type 0
Distinct [] = Unit {0}
Distinct (x ∷ xs) = ¬ (Member x xs) × Distinct xs

module _ (A : Arithmetic) where
  -- an end of a window that is none asks nothing
  abbrev pub From : Option (List ℤ) → List ℤ → Type 0
  From None x = Unit {0}
  From (Some low) x = AtMost A low x

  abbrev pub To : Option (List ℤ) → List ℤ → Type 0
  To None x = Unit {0}
  To (Some high) x = AtMost A x high

module _ (A : Arithmetic) (E : ℕ → ℕ → List ℤ → Type 0) where
  -- a walk from i to j: its events, the last left out, and its sum. One event alone is a walk of sum zero.
  pub data Walk : ℕ → List ℕ → ℕ → List ℤ → Type 0 where
    alone : {i : ℕ} → Walk i [] i A.zero
    on : {i k j : ℕ} {vs : List ℕ} {a s t : List ℤ} → E i k a → Walk k vs j t → s ≡ A.plus a t → Walk i (i ∷ vs) j s

  -- a walk shown by all its events, the last among them, none named twice
  pub record Route (i j : ℕ) (events : List ℕ) (sum : List ℤ) : Type 0 where
    pub front : List ℕ
    pub shown : events ≡ front ++ (j ∷ [])
    pub walk : Walk i front j sum
    pub once : Distinct events

  -- a walk of at least one bound that ends where it began, less than zero in sum
  pub record UnderZero (events : List ℕ) : Type 0 where
    pub at : ℕ
    pub rest : List ℕ
    pub shown : events ≡ at ∷ rest
    pub sum : List ℤ
    pub walk : Walk at events at sum
    pub negative : A.at_most A.zero sum ≡ false

  -- a loop that contradicts: such a walk that names no event twice
  pub record Loop (events : List ℕ) : Type 0 where
    pub at : ℕ
    pub rest : List ℕ
    pub shown : events ≡ at ∷ rest
    pub sum : List ℤ
    pub walk : Walk at events at sum
    pub once : Distinct events
    pub negative : A.at_most A.zero sum ≡ false

  -- times that keep every bound in force
  pub record Schedule : Type 0 where
    pub time : ℕ → List ℤ
    pub amounts : (i : ℕ) → Amount A (time i)
    pub keeps : (i j : ℕ) (w : List ℤ) → E i j w → AtMost A (time j) (A.plus (time i) w)

  -- what a distance says: none where there is no walk; else the sum of one walk, and at most that of each
  abbrev pub Told : ℕ → ℕ → Option (List ℤ) → Type 0
  Told i j None = (vs : List ℕ) (s : List ℤ) → ¬ (Walk i vs j s)
  Told i j (Some d) = ((vs : List ℕ) × Walk i vs j d) × ((vs : List ℕ) (s : List ℤ) → Walk i vs j s → AtMost A d s)

  -- an amount lies between the ends exactly when some schedule sets j that amount after i
  abbrev pub Window : ℕ → ℕ → Option (List ℤ) × Option (List ℤ) → Type 0
  Window i j ends = (x : List ℤ) → Amount A x → (From A ends.0 x × To A ends.1 x) ↔ ((s : Schedule) × (s.time j ≡ A.plus (s.time i) x))

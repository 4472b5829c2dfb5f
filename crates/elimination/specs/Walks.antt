-- A walk: a row of events, each joined to the next by a bound in force.
use Rattle.std.specs.Prelude.{◌≡◌, ◌⊎◌, ◌≢◌, ℕ, ◌≤◌, ◌<◌}

-- E i j a: the bound a stands from i to j. P: what each event inside the row satisfies.
pub data Walk {A : Type 0} (plus : A → A → A) (E : ℕ → ℕ → A → Type 0) (P : ℕ → Type 0) : ℕ → ℕ → A → Type 0 where
  one : {i j : ℕ} {a : A} → E i j a → Walk plus E P i j a
  step : {i k j : ℕ} {a s t : A} → E i k a → P k → Walk plus E P k j t → s ≡ plus a t → Walk plus E P i j s

abbrev pub Any : ℕ → Type 0
Any x = Unit {0}

-- a walk in two, at an event of Q: P inside the first, R inside the second
pub record Parts {A : Type 0} (plus : A → A → A) (E : ℕ → ℕ → A → Type 0) (P Q R : ℕ → Type 0) (i j : ℕ) (s : A) : Type 0 where
  pub at : ℕ
  pub there : Q at
  pub front : A
  pub back : A
  pub before : Walk plus E P i at front
  pub after : Walk plus E R at j back
  pub sums : s ≡ plus front back

module _ {A : Type 0} (zero : A) (plus : A → A → A) (le : A → A → Type 0) (E : ℕ → ℕ → A → Type 0) where
  -- a walk from i to j that comes to s at most
  pub record Below (P : ℕ → Type 0) (i j : ℕ) (s : A) : Type 0 where
    pub sum : A
    pub row : Walk plus E P i j sum
    pub less : le sum s

  -- a walk from i by k to j that comes to s at most
  pub record Around (k : ℕ) (P : ℕ → Type 0) (i j : ℕ) (s : A) : Type 0 where
    pub front : A
    pub back : A
    pub before : Walk plus E P i k front
    pub after : Walk plus E P k j back
    pub less : le (plus front back) s

  -- what R holds is the sum of one walk, and at most that of each
  pub record Exact (P : ℕ → Type 0) (R : A → Type 0) (i j : ℕ) : Type 0 where
    pub sound : (a : A) → R a → Walk plus E P i j a
    pub least : (s : A) → Walk plus E P i j s → (a : A) × R a × le a s

  -- the events from k on are gone
  pub record Worked (k : ℕ) (W : ℕ → ℕ → A → Type 0) : Type 0 where
    pub pair : (i j : ℕ) → i < k → j < k → i ≢ j → Exact (λ x. k ≤ x) (W i j) i j
    pub loops : (i : ℕ) (s : A) → i < k → Walk plus E (λ x. k ≤ x) i i s → le zero s

  -- what is left of k: its bounds to and from the lower ones
  pub record Ring (k : ℕ) (W : ℕ → ℕ → A → Type 0) : Type 0 where
    pub into : (i : ℕ) → i < k → Exact (λ x. k < x) (W i k) i k
    pub out : (i : ℕ) → i < k → Exact (λ x. k < x) (W k i) k i
    pub loops : (s : A) → Walk plus E (λ x. k < x) k k s → le zero s

  -- D is exact below k, over all walks
  pub record Swept (k : ℕ) (D : ℕ → ℕ → A → Type 0) : Type 0 where
    pub pair : (i j : ℕ) → i < k → j < k → i ≢ j → Exact Any (D i j) i j
    pub self : (i : ℕ) → i < k → D i i zero
    pub only : (i : ℕ) (a : A) → i < k → D i i a → a ≡ zero
    pub loops : (i : ℕ) (s : A) → i < k → Walk plus E Any i i s → le zero s

module _ {A : Type 0} (zero : A) (plus : A → A → A) (le : A → A → Type 0) where
  abbrev pub Tests : ℕ → (ℕ → ℕ → A → Type 0) → Type 0
  Tests k W = (i : ℕ) (b c : A) → i < k → W i k b → W k i c → le zero (plus b c)

  -- V is W with k taken out
  pub record Eliminates (k : ℕ) (W V : ℕ → ℕ → A → Type 0) : Type 0 where
    pub from : (i j : ℕ) (a : A) → i < k → j < k → i ≢ j → V i j a → W i j a ⊎ ((b : A) × (c : A) × W i k b × W k j c × (a ≡ plus b c))
    pub keeps : (i j : ℕ) (a : A) → i < k → j < k → i ≢ j → W i j a → (b : A) × V i j b × le b a
    pub tries : (i j : ℕ) (b c : A) → i < k → j < k → i ≢ j → W i k b → W k j c → (a : A) × V i j a × le a (plus b c)
    pub rest : (i j : ℕ) (a : A) → k ≤ i ⊎ k ≤ j → (V i j a → W i j a) × (W i j a → V i j a)

  -- D at k is the least over the lower ones of what D and W give
  pub record Sweeps (k : ℕ) (W D : ℕ → ℕ → A → Type 0) : Type 0 where
    pub into_from : (i : ℕ) (a : A) → i < k → D i k a → (j : ℕ) × (b : A) × (c : A) × (j < k) × D i j b × W j k c × (a ≡ plus b c)
    pub into_tries : (i j : ℕ) (b c : A) → i < k → j < k → D i j b → W j k c → (a : A) × D i k a × le a (plus b c)
    pub out_from : (i : ℕ) (a : A) → i < k → D k i a → (j : ℕ) × (b : A) × (c : A) × (j < k) × W k j b × D j i c × (a ≡ plus b c)
    pub out_tries : (i j : ℕ) (b c : A) → i < k → j < k → W k j b → D j i c → (a : A) × D k i a × le a (plus b c)
    pub self : D k k zero
    pub only : (a : A) → D k k a → a ≡ zero

module _ {A : Type 0} (zero : A) (plus : A → A → A) (le : A → A → Type 0) (E : ℕ → ℕ → A → Type 0) where
  -- the table that is worked in place: the events from k on are gone, and each left its ring
  pub record Kept (n k : ℕ) (W : ℕ → ℕ → A → Type 0) : Type 0 where
    pub worked : Worked zero plus le E k W
    pub rings : (m : ℕ) → k ≤ m → m < n → Ring zero plus le E m W

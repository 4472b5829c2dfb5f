-- Rows that name their events.
use Rattle.std.specs.Prelude.{◌≡◌, ◌⊎◌, List, [], ◌∷◌, ℕ}

abbrev pub Member : ℕ → List ℕ → Type 0
Member x [] = ⊥
Member x (y ∷ ys) = (x ≡ y) ⊎ Member x ys

-- no event is named twice
abbrev pub Distinct : List ℕ → Type 0
Distinct [] = Unit {0}
Distinct (x ∷ xs) = ¬ (Member x xs) × Distinct xs

-- vs: the events from i to j, both ends with them
pub data Row {A : Type 0} (zero : A) (plus : A → A → A) (E : ℕ → ℕ → A → Type 0) : ℕ → List ℕ → ℕ → A → Type 0 where
  stop : {j : ℕ} → Row zero plus E j (j ∷ []) j zero
  on : {i k j : ℕ} {vs : List ℕ} {a s t : A} → E i k a → Row zero plus E k vs j t → s ≡ plus a t → Row zero plus E i (i ∷ vs) j s

pub record Simple {A : Type 0} (zero : A) (plus : A → A → A) (le : A → A → Type 0) (E : ℕ → ℕ → A → Type 0) (i j : ℕ) (s : A) : Type 0 where
  pub names : List ℕ
  pub sum : A
  pub row : Row zero plus E i names j sum
  pub once : Distinct names
  pub less : le sum s

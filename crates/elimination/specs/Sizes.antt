-- Amounts that have a size, and bounds that are small.
use Rattle.std.specs.Prelude.{◌≡◌, ℕ, ◌+◌, ◌^◌, ◌≤◌, ◌<◌}

pub record Measured {A : Type 0} (nil : A) (plus : A → A → A) (le : A → A → Type 0) (size : A → ℕ) : Type 0 where
  pub anti : (a b : A) → le a b → le b a → a ≡ b
  pub size_nil : size nil ≡ 0
  pub size_plus : (a b : A) → size (plus a b) ≤ size a + size b

-- a net: n events, no bound of an event to itself that is less than zero, and each bound small
pub record Net {A : Type 0} (nil : A) (le : A → A → Type 0) (size : A → ℕ) (E : ℕ → ℕ → A → Type 0) (n : ℕ) : Type 0 where
  pub within : (i j : ℕ) (a : A) → E i j a → (i < n) × (j < n)
  pub calm : (i : ℕ) (a : A) → E i i a → le nil a
  pub small : (i j : ℕ) (a : A) → E i j a → size a ≤ 2 ^ 40

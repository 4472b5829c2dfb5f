-- Lists of ranks.
use Rattle.std.specs.Prelude.{◌≡◌, ℕ, ◌<◌, ◌≢◌, List, slice_index}

-- q is one of the first m
abbrev pub Among : List ℕ → ℕ → ℕ → Type 0
Among ranks m q = (t : ℕ) × (t < m) × (slice_index ranks t ≡ q)

-- no two of the first m are the same
abbrev pub Apart : List ℕ → ℕ → Type 0
Apart ranks m = (s t : ℕ) → s < t → t < m → slice_index ranks s ≢ slice_index ranks t

-- the first m are those of S, each once
pub record Lists (S : ℕ → Type 0) (ranks : List ℕ) (m : ℕ) : Type 0 where
  pub member : (t : ℕ) → t < m → S (slice_index ranks t)
  pub found : (q : ℕ) → S q → Among ranks m q
  pub apart : Apart ranks m

-- q is one of the first m, and not skip
abbrev pub Others : List ℕ → ℕ → ℕ → ℕ → Type 0
Others ranks m skip q = Among ranks m q × (q ≢ skip)

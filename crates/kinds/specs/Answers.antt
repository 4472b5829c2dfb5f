-- What an operation that may refuse answers.
use Rattle.std.specs.Prelude.{◌≡◌, ℕ, Bool, true, false, List, length, ℤ, Some, None, Ok, Err, Option, Result, ◌≢◌}

-- the first where the test is true, else the second
abbrev pub pick : {X : Type 0} → Bool → X → X → X
pick true x y = x
pick false x y = y

-- None exactly where P does not hold, else a bound whose amount is v
abbrev pub Exact : {K : Type 0} → (K → List ℤ) → Option K → Type 0 → List ℤ → Type 0
Exact amount None P v = P → ⊥
Exact amount (Some x) P v = P × (amount x ≡ v)

-- a place takes the bytes exactly where it is w long, and is else left as it was
abbrev pub Encoded : {T E : Type 0} → Result T E → ℕ → List ℕ → List ℕ → List ℕ → Type 0
Encoded (Ok x) w bytes before after = (length before ≡ w) × (after ≡ bytes)
Encoded (Err e) w bytes before after = (length before ≢ w) × (after ≡ before)

-- bytes name a bound exactly where there are w, and are then the bytes of that bound
abbrev pub Decoded : {K : Type 0} → (K → List ℤ) → (List ℤ → List ℕ) → (List ℕ → List ℤ) → Option K → ℕ → List ℕ → Type 0
Decoded amount encoded decoded None w bytes = length bytes ≡ w → ⊥
Decoded amount encoded decoded (Some x) w bytes = (length bytes ≡ w) × (amount x ≡ decoded bytes) × (encoded (amount x) ≡ bytes)

-- The walk behind a least sum.
use Rattle.std.specs.Prelude.{ℕ, ◌≢◌, List, ℤ}
use Rattle.kinds.specs.Arithmetic.{Arithmetic, Lawful}
use Rattle.elimination.specs.Held.{Held, plus, le}
use Rattle.eliminator.specs.Views.{Grid}
use Rattle.eliminator.specs.State.{Traced}
use Rattle.closing.specs.Trace.{Calm, Rows}
use Rattle.sweeper.specs.Sums.{Leasts, Sums, Led}

abbrev pub Toward : {K : Type 0} → (A : Arithmetic) → (K → List ℤ) → ℕ → Grid K → Leasts K → ℕ → ℕ → List ℕ → List ℕ → Type 0
Toward A amount n xs ds i j vs ws =
    (L : Lawful A) (hi a : ℕ) (s c : Held A) → Traced A amount n hi xs → Led A amount n xs ds → Calm L amount n 0 xs → i ≢ j →
    Sums amount n ds i j c.0 → Rows L amount n 0 xs a vs i s → (t : Held A) × Rows L amount n 0 xs a ws j t × le A t (plus L s c)

-- vs: from i to j by bounds in force, no event twice, and no more than the sum that is held
abbrev pub Walked : {K : Type 0} → (A : Arithmetic) → (K → List ℤ) → ℕ → Grid K → Leasts K → ℕ → ℕ → List ℕ → Type 0
Walked A amount n xs ds i j vs =
    (L : Lawful A) (hi : ℕ) (c : Held A) → Traced A amount n hi xs → Led A amount n xs ds → Calm L amount n 0 xs → i ≢ j →
    Sums amount n ds i j c.0 → (t : Held A) × Rows L amount n 0 xs i vs j t × le A t c

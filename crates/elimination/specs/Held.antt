-- The amounts of a kind, each with the proof that it is one.
use Rattle.std.specs.Prelude.{List, ℕ, ℤ}
use Rattle.kinds.specs.Arithmetic.{Arithmetic, Amount, AtMost, Lawful}
use Rattle.elimination.specs.Amounts.{Amounts}
use Rattle.elimination.specs.Sizes.{Measured}

abbrev pub Held : Arithmetic → Type 0
Held A = (x : List ℤ) × Amount A x

module _ {A : Arithmetic} (L : Lawful A) where
  abbrev pub nil : Held A
  nil = (A.zero, L.zero_amount)

  abbrev pub plus : Held A → Held A → Held A
  plus a b = (A.plus a.0 b.0, L.plus_amount a.0 b.0 a.1 b.1)

abbrev pub le : (A : Arithmetic) → Held A → Held A → Type 0
le A a b = AtMost A a.0 b.0

abbrev pub size : (A : Arithmetic) → Held A → ℕ
size A a = A.size a.0

-- the amounts of every lawful kind keep the laws that elimination and sweep ask for
abbrev pub Keeps : {A : Arithmetic} → Lawful A → Type 0
Keeps {A} L = Amounts (nil L) (plus L) (le A) × Measured (nil L) (plus L) (le A) (size A)

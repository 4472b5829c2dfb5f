-- What a kind of bound computes with. An amount is a row of whole numbers; all rows of a kind have one length.
-- All of it computes: the tests answer Bool, so worked examples are shown by computing.
use Rattle.std.specs.Prelude.{◌≡◌, ℕ, ◌+◌, ◌≤◌, Bool, true, ◌⊎◌, List, length, ℤ}

pub record Arithmetic : Type 0 where
  -- the length of every amount's row
  pub width : ℕ
  -- whether a row is an amount of the kind
  pub amount : List ℤ → Bool
  pub zero : List ℤ
  pub plus : List ℤ → List ℤ → List ℤ
  -- whether the first is at most the second
  pub at_most : List ℤ → List ℤ → Bool
  pub size : List ℤ → ℕ

abbrev pub Amount : Arithmetic → List ℤ → Type 0
Amount A x = A.amount x ≡ true

abbrev pub AtMost : Arithmetic → List ℤ → List ℤ → Type 0
AtMost A x y = A.at_most x y ≡ true

-- The laws of zero, sum, order and size. Nothing here speaks of an opposite.
pub record Lawful (A : Arithmetic) : Type 0 where
  pub long : (x : List ℤ) → Amount A x → length x ≡ A.width
  pub zero_amount : Amount A A.zero
  pub plus_amount : (x y : List ℤ) → Amount A x → Amount A y → Amount A (A.plus x y)
  pub assoc : (x y z : List ℤ) → Amount A x → Amount A y → Amount A z → A.plus (A.plus x y) z ≡ A.plus x (A.plus y z)
  pub comm : (x y : List ℤ) → Amount A x → Amount A y → A.plus x y ≡ A.plus y x
  pub neutral : (x : List ℤ) → Amount A x → A.plus A.zero x ≡ x
  pub reflexive : (x : List ℤ) → Amount A x → AtMost A x x
  pub transitive : (x y z : List ℤ) → Amount A x → Amount A y → Amount A z → AtMost A x y → AtMost A y z → AtMost A x z
  pub antisymmetric : (x y : List ℤ) → Amount A x → Amount A y → AtMost A x y → AtMost A y x → x ≡ y
  pub total : (x y : List ℤ) → Amount A x → Amount A y → AtMost A x y ⊎ AtMost A y x
  pub keeps : (x y z : List ℤ) → Amount A x → Amount A y → Amount A z → AtMost A x y → AtMost A (A.plus x z) (A.plus y z)
  pub size_zero : A.size A.zero ≡ 0
  pub size_plus : (x y : List ℤ) → Amount A x → Amount A y → A.size (A.plus x y) ≤ A.size x + A.size y

-- The laws of the opposite, in a group of their own: closing never needs them.
pub record Inverse (A : Arithmetic) (minus : List ℤ → List ℤ) : Type 0 where
  pub minus_amount : (x : List ℤ) → Amount A x → Amount A (minus x)
  pub undoes : (x : List ℤ) → Amount A x → A.plus x (minus x) ≡ A.zero
  pub minus_size : (x : List ℤ) → Amount A x → A.size (minus x) ≡ A.size x

-- The sum of a row of bounds.
use Rattle.std.specs.Prelude.{◌^◌, ◌≤◌, List, ℤ, fold}
use Rattle.std.specs.List.{AllByRecursion}
use Rattle.kinds.specs.Arithmetic.{Arithmetic}

module _ {K : Type 0} (A : Arithmetic) (amount : K → List ℤ) where
  -- the sum of their amounts, from the left
  abbrev pub sum_of : List K → List ℤ
  sum_of bounds = fold (λ s b. A.plus s (amount b)) A.zero bounds

  -- each has a size of at most 2^40
  abbrev pub AllSmall : List K → Type 0
  AllSmall bounds = AllByRecursion (λ b. A.size (amount b) ≤ 2 ^ 40) bounds

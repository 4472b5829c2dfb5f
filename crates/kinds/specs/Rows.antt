-- Rows of n whole numbers: summed part by part, ordered by the first part that differs, sized by the greatest part.
use Rattle.std.specs.Prelude.{ℕ, zero, suc, max, Bool, true, false, List, [], ◌∷◌, ℤ, pos, ◌+ℤ◌, neg_ℤ, int_lt, unsigned_abs}
use Rattle.kinds.specs.Answers.{pick}
use Rattle.kinds.specs.Arithmetic.{Arithmetic}

-- whether a row has n numbers
abbrev pub row : ℕ → List ℤ → Bool
row zero [] = true
row zero (x ∷ xs) = false
row (suc n) [] = false
row (suc n) (x ∷ xs) = row n xs

abbrev pub zeros : ℕ → List ℤ
zeros zero = []
zeros (suc n) = pos 0 ∷ zeros n

abbrev pub plus : List ℤ → List ℤ → List ℤ
plus [] ys = []
plus (x ∷ xs) [] = []
plus (x ∷ xs) (y ∷ ys) = (x +ℤ y) ∷ plus xs ys

abbrev pub minus : List ℤ → List ℤ
minus [] = []
minus (x ∷ xs) = neg_ℤ x ∷ minus xs

abbrev pub at_most : List ℤ → List ℤ → Bool
at_most [] ys = true
at_most (x ∷ xs) [] = false
at_most (x ∷ xs) (y ∷ ys) = pick (int_lt x y) true (pick (int_lt y x) false (at_most xs ys))

abbrev pub size : List ℤ → ℕ
size [] = 0
size (x ∷ xs) = max (unsigned_abs x) (size xs)

abbrev pub rows : ℕ → Arithmetic
rows n = record { width = n; amount = row n; zero = zeros n; plus = plus; at_most = at_most; size = size }

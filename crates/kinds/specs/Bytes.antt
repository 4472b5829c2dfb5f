-- The bytes of a row of whole numbers: eight for each, the highest first, in two's complement.
use Rattle.std.specs.Prelude.{ℕ, zero, suc, ◌+◌, ◌*◌, ◌/◌, ◌%◌, List, [], ◌∷◌, ◌++◌, take, drop, ℤ, slice_index}
use Rattle.std.specs.Int.{w64}
use Rattle.std.proofs.Common.{of_z, to_z}

-- the eight bytes of a number below 2^64, and back
abbrev pub eight : ℕ → List ℕ
eight n =
    (n / 72057594037927936 % 256) ∷ (n / 281474976710656 % 256) ∷ (n / 1099511627776 % 256) ∷ (n / 4294967296 % 256) ∷ (n / 16777216 % 256) ∷ (n / 65536 % 256) ∷ (n / 256 % 256) ∷ (n % 256) ∷ []

abbrev pub of_eight : List ℕ → ℕ
of_eight b =
    slice_index b 0 * 72057594037927936 + slice_index b 1 * 281474976710656 + slice_index b 2 * 1099511627776 + slice_index b 3 * 4294967296 + slice_index b 4 * 16777216 + slice_index b 5 * 65536 + slice_index b 6 * 256 + slice_index b 7

-- the eight bytes of a whole number, and the whole number of eight bytes
unfoldable pub whole_bytes : ℤ → List ℕ
whole_bytes n = eight (of_z w64 n)

unfoldable pub whole_of : List ℕ → ℤ
whole_of b = to_z w64 (of_eight b)

abbrev pub row_bytes : List ℤ → List ℕ
row_bytes [] = []
row_bytes (x ∷ xs) = whole_bytes x ++ row_bytes xs

-- the row of n whole numbers that bytes name
abbrev pub row_of : ℕ → List ℕ → List ℤ
row_of zero b = []
row_of (suc n) b = whole_of (take 8 b) ∷ row_of n (drop 8 b)

-- Bytes and the whole numbers that they name undo each other.
use Rattle.std.proofs.Common.{◌≡◌, ℕ, ◌^◌, ◌<◌, List, [], ◌∷◌, ◌++◌, length, take, drop, get_or, ℤ, refl, ap, ◌∙◌, arith, w8, w64, Fits, SFits, to_z, of_z}
use Rattle.std.proofs.Math.Facts.{Fits-of_z}
use Rattle.std.proofs.lemmas.Int.{of_z-to_z, to_z-of_z}
use Rattle.std.proofs.lemmas.Nat.{be_bytes_8, from_be_bytes-to_be_bytes_8}
use Rattle.std.proofs.lemmas.List.{take_at, drop_at}
use Rattle.std.specs.List.{AllByRecursion}
use Rattle.kinds.specs.Bytes.{of_eight, whole_bytes, whole_of, row_bytes, row_of}

-- the bytes of the number that eight bytes name
pub read_back : (s : List ℕ) → length s ≡ 8 → ((i : ℕ) → Fits w8 (get_or s i 0)) → whole_bytes (whole_of s) ≡ s
unfolding whole_bytes whole_of
read_back s l t =
    let t0 = t 0 in let t1 = t 1 in let t2 = t 2 in let t3 = t 3 in let t4 = t 4 in let t5 = t 5 in let t6 = t 6 in let t7 = t 7 in
    let below : of_eight s < 2 ^ 64 = omega arith in
    be_bytes_8 s (of_z w64 (to_z w64 (of_eight s))) l (λ i. (t i).fits) (of_z-to_z w64 (of_eight s) below)

-- the number of the bytes that a number has
pub whole_back : (z : ℤ) → SFits w64 z → whole_of (whole_bytes z) ≡ z
unfolding whole_bytes whole_of
whole_back z f = ap (to_z w64) (from_be_bytes-to_be_bytes_8 (of_z w64 z) (Fits-of_z f).fits) ∙ to_z-of_z w64 z f

pub whole_long : (z : ℤ) → length (whole_bytes z) ≡ 8
unfolding whole_bytes
whole_long z = refl

-- the row of the bytes that a row has
pub row_back : (xs : List ℤ) → AllByRecursion (SFits w64) xs → row_of (length xs) (row_bytes xs) ≡ xs
row_back [] f = refl
row_back (x ∷ xs) f =
    let front : take 8 (whole_bytes x ++ row_bytes xs) ≡ whole_bytes x = take_at (whole_bytes x) (row_bytes xs) 8 (whole_long x) in
    let rest : drop 8 (whole_bytes x ++ row_bytes xs) ≡ row_bytes xs = drop_at (whole_bytes x) (row_bytes xs) 8 (whole_long x) in
    rw (front, rest, whole_back x f.0, row_back xs f.1)

-- What a table holds at each pair after a write and after clearing.
use Rattle.std.proofs.Common.{◌≡◌, ℕ, zero, suc, ◌+◌, ◌*◌, ◌<◌, ◌≤◌, List, [], ◌∷◌, length, get_or, set, take, drop, ◌++◌, replicate, refl, ap, arith, get_or-set_other, get_or-set_same}
use lib.Arith.{digits_lt}
use Rattle.std.proofs.lemmas.Nat.{same_from_place}
use Rattle.table.specs.declared.cell.Cell.{Cell}
use Rattle.table.specs.Cells.{empty, at_cell, cleared}

-- a pair's place lies in the table
pub place_below : (n i j : ℕ) → i < n → j < n → i * n + j < n * n
place_below n i j p q = digits_lt {q = i} {m = n} {r = j} {c = n} p q

pub put_same : {K : Type 0} (n i j : ℕ) (xs : List (Cell K)) (v : Cell K) → i < n → j < n → n * n ≤ length xs → at_cell n (set xs (i * n + j) v) i j ≡ v
put_same n i j xs v p q h = get_or-set_same xs (i * n + j) v empty (let l = place_below n i j p q in omega arith)

pub put_other : {K : Type 0} (n i j x y : ℕ) (xs : List (Cell K)) (v : Cell K) → j < n → y < n → ((x ≡ i) × (y ≡ j) → ⊥) → at_cell n (set xs (i * n + j) v) x y ≡ at_cell n xs x y
put_other n i j x y xs v p q h = get_or-set_other xs (i * n + j) (x * n + y) v empty (λ e. h (same_from_place x y i j n q p e))

nothing : {K : Type 0} (k : ℕ) → get_or [] k empty ≡ empty {K = K}
nothing k = refl

-- the first m cells hold nothing, and those from m on what they held
pub clear_below : {K : Type 0} (m k : ℕ) (xs : List (Cell K)) → k < m → get_or (cleared m xs) k empty ≡ empty
clear_below zero k xs h = absurd (omega arith)
clear_below (suc m) k [] h = nothing k
clear_below (suc m) zero (x ∷ xs) h = refl
clear_below (suc m) (suc k) (x ∷ xs) h = clear_below m k xs (omega arith)

pub clear_above : {K : Type 0} (m k : ℕ) (xs : List (Cell K)) → m ≤ k → get_or (cleared m xs) k empty ≡ get_or xs k empty
clear_above zero k xs h = refl
clear_above (suc m) k [] h = refl
clear_above (suc m) zero (x ∷ xs) h = absurd (omega arith)
clear_above (suc m) (suc k) (x ∷ xs) h = clear_above m k xs (omega arith)

-- after the first n × n cells are cleared, no pair holds anything
pub clear_at : {K : Type 0} (n i j : ℕ) (xs : List (Cell K)) → i < n → j < n → at_cell n (cleared (n * n) xs) i j ≡ empty
clear_at n i j xs p q = clear_below (n * n) (i * n + j) xs (place_below n i j p q)

pub clear_length : {K : Type 0} (m : ℕ) (xs : List (Cell K)) → length (cleared m xs) ≡ length xs
clear_length zero xs = refl
clear_length (suc m) [] = refl
clear_length (suc m) (x ∷ xs) = ap suc (clear_length m xs)

-- the first m cells each filled with one that holds nothing
pub clear_filled : {K : Type 0} (m : ℕ) (xs ys : List (Cell K)) (v : Cell K) → v ≡ empty → ys ≡ replicate (length (take m xs)) v → ys ++ drop m xs ≡ cleared m xs
clear_filled m xs ys v e f = rw (f, e) (filled m xs)
  where
    filled : {K : Type 0} (m : ℕ) (xs : List (Cell K)) → replicate (length (take m xs)) empty ++ drop m xs ≡ cleared m xs
    filled zero xs = refl
    filled (suc m) [] = refl
    filled (suc m) (x ∷ xs) = ap (λ ys. empty ∷ ys) (filled m xs)

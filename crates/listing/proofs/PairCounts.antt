-- How many pairs there are.
use Rattle.std.proofs.Common.{◌≡◌, ℕ, zero, suc, ◌+◌, ◌-◌, ◌≤◌, refl, ap, add-one, arith}

-- the pairs of n events whose first is below i
pub before : ℕ → ℕ → ℕ
before n zero = 0
before n (suc i) = before n i + (n - (i + 1))

pub before_more : (n i : ℕ) → before n (i + 1) ≡ before n i + (n - (i + 1))
unfolding before
before_more n i = ap (before n) (add-one i)

-- fewer events have fewer pairs, and fewer firsts too
fewer : (n m i : ℕ) → n ≤ m → before n i ≤ before m i
unfolding before
fewer n m zero h = omega arith
fewer n m (suc i) h = let r = fewer n m i h in omega arith

further : (n i j : ℕ) → before n i ≤ before n (i + j)
further n i zero = let e : i + 0 ≡ i = omega arith in rw e (omega arith)
further n i (suc j) =
    let e : i + suc j ≡ (i + j) + 1 = omega arith in
    let r = further n i j in
    rw (e, before_more n (i + j)) (omega arith)

all : before 32 32 ≡ 496
unfolding before
all = refl

-- 32 events have 496 pairs
pub few : (n i : ℕ) → n ≤ 32 → i ≤ n → before n i ≤ 496
few n i h l =
    let a = fewer n 32 i h in
    let b = further 32 i (32 - i) in
    let e : i + (32 - i) ≡ 32 = omega arith in
    let c : before 32 i ≤ before 32 32 = rw e at b in
    omega (arith, all)

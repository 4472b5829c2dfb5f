-- Looks are at most width × n × (n - 1) / 2.
use Rattle.std.proofs.Common.{◌≡◌, ℕ, zero, suc, ◌+◌, ◌-◌, ◌*◌, ◌/◌, ◌≤◌, max, List, [], ◌∷◌, length, sym, refl, ap, ◌∙◌, mul-le-mul_right, mul_assoc, mul_comm, mul-le-mul_left, mul-add, arith}
use Rattle.order.specs.Elimination.{Graph, degree, after, width_of, looks_of}

-- 0 + 1 + .. + (n - 1)
abbrev sum_below : ℕ → ℕ
sum_below zero = 0
sum_below (suc n) = n + sum_below n

twice_suc : (m : ℕ) → 2 * sum_below (suc m) ≡ suc m * m
twice_suc zero = refl
twice_suc (suc m) =
    let h = twice_suc m in
    let a : suc (suc m) * suc m ≡ 2 * suc m + suc m * m = mul_comm (suc (suc m)) (suc m) ∙ ap (λ (z : ℕ). suc m * z) (two m) ∙ mul-add (suc m) 2 m ∙ ap (λ (z : ℕ). z + suc m * m) (mul_comm (suc m) 2) in
    omega arith
  where
    two : (m : ℕ) → suc (suc m) ≡ 2 + m
    two m = omega arith

twice : (n : ℕ) → 2 * sum_below n ≡ n * (n - 1)
twice zero = refl
twice (suc m) = let e : suc m - 1 ≡ m = omega arith in rw e (twice_suc m)

-- (n - 1) + (n - 2) + .., m of them
abbrev sum_down : ℕ → ℕ → ℕ
sum_down n zero = 0
sum_down n (suc m) = sum_down n m + (n - m - 1)

one_less : (a : ℕ) → sum_below a ≡ (a - 1) + sum_below (a - 1)
one_less zero = refl
one_less (suc m) = let e : suc m - 1 ≡ m = omega arith in rw e refl

whole : (n : ℕ) → n - 0 ≡ n
whole n = omega arith

next : (n m : ℕ) → n - suc m ≡ n - m - 1
next n m = omega arith

down_below : (n m : ℕ) → sum_down n m + sum_below (n - m) ≡ sum_below n
down_below n zero = let e : sum_below (n - 0) ≡ sum_below n = ap sum_below (whole n) in omega arith
down_below n (suc m) =
    let h = down_below n m in
    let a = one_less (n - m) in
    let e : sum_below (n - suc m) ≡ sum_below (n - m - 1) = ap sum_below (next n m) in
    omega arith

-- over plain numbers: s the looks so far of width w, l lower ranks, d the neighbours met, t the width now
turn : (s w u l d t : ℕ) → s ≤ w * u → d ≤ t → w ≤ t → s + l * d ≤ t * (u + l)
turn s w u l d t h p q =
    let a : l * d ≤ l * t = mul-le-mul_left l p in
    let b : w * u ≤ t * u = mul-le-mul_right u q in
    let c = mul-add t u l in
    let e = mul_comm l t in
    omega arith

under : (n : ℕ) (graph : Graph) (gone : List ℕ) → looks_of n graph gone ≤ width_of n graph gone * sum_down n (length gone)
unfolding looks_of width_of
under n graph [] = omega arith
under n graph (e ∷ gone) =
    turn (looks_of n graph gone) (width_of n graph gone) (sum_down n (length gone)) (n - length gone - 1) (degree n (after n graph gone) (e ∷ gone) e)
    (max (width_of n graph gone) (degree n (after n graph gone) (e ∷ gone) e)) (under n graph gone) (omega arith) (omega arith)

half : (a w n : ℕ) → a ≤ w * sum_below n → a ≤ w * n * (n - 1) / 2
half a w n h =
    let e : 2 * (w * sum_below n) ≡ w * n * (n - 1) = mul_comm 2 (w * sum_below n) ∙ mul_assoc w (sum_below n) 2 ∙ ap (λ (z : ℕ). w * z) (mul_comm (sum_below n) 2 ∙ twice n) ∙ sym (mul_assoc w n (n - 1)) in
    omega arith

pub looks_bounded : (n : ℕ) (graph : Graph) (gone : List ℕ) → looks_of n graph gone ≤ width_of n graph gone * n * (n - 1) / 2
looks_bounded n graph gone =
    let w : ℕ = width_of n graph gone in
    let less : sum_down n (length gone) ≤ sum_below n = omega (arith, down_below n (length gone)) in
    let a : w * sum_down n (length gone) ≤ w * sum_below n = mul-le-mul_left w less in
    half (looks_of n graph gone) w n (omega (arith, under n graph gone))

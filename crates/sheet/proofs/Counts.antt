-- How many bytes the records of the bounds have: so many for each bound in force.
use Rattle.std.proofs.Common.{◌≡◌, ℕ, zero, suc, ◌+◌, ◌*◌, ◌≤◌, cond, List, [], ◌∷◌, ◌++◌, get_or, ℤ, Some, None, Option, is_some, sum_by, count_by, sym, ap, ◌∙◌, zero-add, add-zero, arith}
use Rattle.std.specs.List.{range_with_len}
use Rattle.std.proofs.Math.Nat.{mul-le-mul_right, mul-le-mul}
use Rattle.std.proofs.lemmas.List.Sums.{sum_by-append, sum_by-le, count_by-le-length}
use Rattle.std.proofs.lemmas.List.Elements.{All-from_get_or}
use Rattle.std.proofs.lemmas.List.FromFn.{length-range_with_len}
use Rattle.sheet.specs.Records.{Coding}
use Rattle.sheet.specs.Written.{summed, pair_length, row_length, all_length, bounds_length, held_from, held}
use Rattle.net.specs.State.{State}

range_more : (a n : ℕ) → range_with_len a (suc n) ≡ range_with_len a n ++ ((a + n) ∷ [])
range_more a zero = ap (λ m. m ∷ []) (sym (add-zero a))
range_more a (suc n) = ap (λ xs. a ∷ xs) (range_more (a + 1) n ∙ ap (λ m. range_with_len (a + 1) n ++ (m ∷ [])) (omega arith))

sum_more : (f : ℕ → ℕ) (n : ℕ) → sum_by f (range_with_len 0 (suc n)) ≡ sum_by f (range_with_len 0 n) + f n
sum_more f n = ap (sum_by f) (range_more 0 n) ∙ sum_by-append f (range_with_len 0 n) ((0 + n) ∷ []) ∙ ap (λ m. sum_by f (range_with_len 0 n) + sum_by f (m ∷ [])) (zero-add n) ∙ ap (λ m. sum_by f (range_with_len 0 n) + m) (zero-add (f n))

pair_counted : (K : Coding) (b : Option (List ℤ)) → pair_length K b ≡ cond (is_some b) 1 0 * (K.width + 5)
pair_counted K None = omega arith
pair_counted K (Some w) = omega arith

module _ (K : Coding) (s : State) where
  row_counted : (i n : ℕ) → row_length K s.bounds i n ≡ count_by (λ j. is_some (s.bounds i j)) (range_with_len 0 n) * (K.width + 5)
  unfolding summed
  row_counted i zero = omega arith
  row_counted i (suc n) =
      let r = row_counted i n in
      let p = pair_counted K (s.bounds i n) in
      let c = sum_more (λ j. cond (is_some (s.bounds i j)) 1 0) n in
      rw c (omega arith)

  all_counted : (n : ℕ) → all_length K s.bounds s.events n ≡ sum_by (held_from s) (range_with_len 0 n) * (K.width + 5)
  unfolding summed
  all_counted zero = omega arith
  all_counted (suc n) =
      let r = all_counted n in
      let p = row_counted n s.events in
      let c = sum_more (held_from s) n in
      rw c (omega arith)

  pub length_counted : held s * (K.width + 5) ≡ bounds_length K s
  length_counted = sym (all_counted s.events)

-- n events have at most n times n
pub held_few : (s : State) (m : ℕ) → s.events ≤ m → held s ≤ m * m
held_few s m h =
    let few : (i : ℕ) → held_from s i ≤ m = λ i. (let c = count_by-le-length (λ j. is_some (s.bounds i j)) (range_with_len 0 s.events) in let l = length-range_with_len 0 s.events in omega arith) in
    let all = sum_by-le (held_from s) m (range_with_len 0 s.events) (All-from_get_or (λ i. held_from s i ≤ m) (range_with_len 0 s.events) 0 (λ i l. few (get_or (range_with_len 0 s.events) i 0))) in
    let t = rw (length-range_with_len 0 s.events) at all in
    let u : s.events * m ≤ m * m = mul-le-mul_right m h in
    omega arith

-- each of them with a record of at most 69 bytes
pub length_few : (h w : ℕ) (s : State) → h ≡ held s → s.events ≤ 128 → w ≤ 64 → h * (w + 5) ≤ 1130496
length_few h w s e n l =
    let f = held_few s 128 n in
    let a : h ≤ 16384 = omega arith in
    let b : w + 5 ≤ 69 = omega arith in
    mul-le-mul a b

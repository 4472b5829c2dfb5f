-- Rows of names, and the pigeonhole.
use Rattle.std.proofs.Common.{◌≡◌, ℕ, zero, suc, ◌<◌, ◌≤◌, ◌≢◌, List, [], ◌∷◌, length, refl, ap, subst, inl, inr, arith}
use native.Mathlib.Decide.{ℕ_discrete}
use Rattle.walks.specs.Walks.{Member, Distinct}

pub member? : (x : ℕ) (xs : List ℕ) → Dec (Member x xs)
member? x [] = no (λ h. h)
member? x (y ∷ ys) = elim (ℕ_discrete x y) [
  | yes e ↦ yes (inl e)
  | no d ↦ elim (member? x ys) [ yes h ↦ yes (inr h) | no h ↦ no (λ t. elim t [ inl e ↦ d e | inr m ↦ h m ]) ]
]

without : (x : ℕ) (xs : List ℕ) → Member x xs → List ℕ
without x [] m = []
without x (y ∷ ys) (inl e) = ys
without x (y ∷ ys) (inr m) = y ∷ without x ys m

without_length : (x : ℕ) (xs : List ℕ) (m : Member x xs) → length xs ≡ suc (length (without x xs m))
unfolding without
without_length x [] m = absurd m
without_length x (y ∷ ys) (inl e) = refl
without_length x (y ∷ ys) (inr m) = ap suc (without_length x ys m)

without_member : (x : ℕ) (xs : List ℕ) (m : Member x xs) (z : ℕ) → Member z (without x xs m) → Member z xs
unfolding without
without_member x [] m z h = absurd m
without_member x (y ∷ ys) (inl e) z h = inr h
without_member x (y ∷ ys) (inr m) z (inl e) = inl e
without_member x (y ∷ ys) (inr m) z (inr h) = inr (without_member x ys m z h)

without_distinct : (x : ℕ) (xs : List ℕ) (m : Member x xs) → Distinct xs → Distinct (without x xs m) × ¬ (Member x (without x xs m))
unfolding without
without_distinct x [] m d = absurd m
without_distinct x (y ∷ ys) (inl e) d = (d.1, rw e d.0)
without_distinct x (y ∷ ys) (inr m) d =
    let (p, q) = without_distinct x ys m d.1 in
    ((λ h. d.0 (without_member x ys m y h), p), λ t. elim t [ inl e ↦ d.0 (subst (λ (z : ℕ). Member z ys) e m) | inr h ↦ q h ])

pub pigeons : (n : ℕ) (xs : List ℕ) → Distinct xs → ((x : ℕ) → Member x xs → x < n) → length xs ≤ n
pigeons zero [] d h = omega arith
pigeons zero (x ∷ xs) d h = let l = h x (inl refl) in absurd (omega arith)
pigeons (suc n) xs d h = elim (member? n xs) [
  | yes m ↦
      let (p, q) = without_distinct n xs m d in
      let l = pigeons n (without n xs m) p (λ x i. below x (h x (without_member n xs m x i)) (λ e. q (rw e at i))) in
      omega (arith, without_length n xs m)
  | no q ↦ let l = pigeons n xs d (λ x i. below x (h x i) (λ e. q (rw e at i))) in omega arith
]
  where
    below : (x : ℕ) → x < suc n → x ≢ n → x < n
    below x h d = omega arith

-- A walk comes to no less than one that names no event twice, and such a one is short.
use mathlib.Core.Path.{◌≡◌, refl, ap, subst}
use mathlib.Core.Logic.{inl, inr, ◌≢◌}
use mathlib.Core.List.{List, [], ◌∷◌}
use Prim.Native.Nat.{ℕ, ◌≤◌, ◌<◌, zero, suc}
use native.Mathlib.Omega.{arith}
use native.Mathlib.Decide.{ℕ_discrete}
use lib.ListN.{length}
use Rattle.elimination.specs.Amounts.{Amounts}
use Rattle.elimination.specs.Walks.{Walk, Any}
use Rattle.elimination.specs.Walks.Walk.{one, step}
use Rattle.elimination.specs.Simple.{Member, Distinct, Row, Simple}
use Rattle.elimination.specs.Simple.Row.{stop, on}
use Rattle.elimination.proofs.Order.{unit_right, drop_front, mono_right}
use Rattle.elimination.proofs.Rows.{join}

pub member? : (x : ℕ) (xs : List ℕ) → Dec (Member x xs)
member? x [] = no (λ h. h)
member? x (y ∷ ys) = elim (ℕ_discrete x y) [
  | yes e ↦ yes (inl e)
  | no d ↦ elim (member? x ys) [ yes h ↦ yes (inr h) | no h ↦ no (λ t. elim t [ inl e ↦ d e | inr m ↦ h m ]) ]
]

-- pigeonhole
without : (x : ℕ) (xs : List ℕ) → Member x xs → List ℕ
without x [] m = []
without x (y ∷ ys) (inl e) = ys
without x (y ∷ ys) (inr m) = y ∷ without x ys m

without_length : (x : ℕ) (xs : List ℕ) (m : Member x xs) → length xs ≡ suc (length (without x xs m))
unfolding without
without_length x [] m = absurd m
without_length x (y ∷ ys) (inl e) = refl
without_length x (y ∷ ys) (inr m) = ap suc (without_length x ys m)

without_member : (x : ℕ) (xs : List ℕ) (m : Member x xs) (z : ℕ) → Member z (without x xs m) → Member z xs
unfolding without
without_member x [] m z h = absurd m
without_member x (y ∷ ys) (inl e) z h = inr h
without_member x (y ∷ ys) (inr m) z (inl e) = inl e
without_member x (y ∷ ys) (inr m) z (inr h) = inr (without_member x ys m z h)

without_distinct : (x : ℕ) (xs : List ℕ) (m : Member x xs) → Distinct xs → Distinct (without x xs m) × ¬ (Member x (without x xs m))
unfolding without
without_distinct x [] m d = absurd m
without_distinct x (y ∷ ys) (inl e) d = (d.1, rw e d.0)
without_distinct x (y ∷ ys) (inr m) d =
    let (p, q) = without_distinct x ys m d.1 in
    ((λ h. d.0 (without_member x ys m y h), p), λ t. elim t [ inl e ↦ d.0 (subst (λ (z : ℕ). Member z ys) e m) | inr h ↦ q h ])

pub pigeons : (n : ℕ) (xs : List ℕ) → Distinct xs → ((x : ℕ) → Member x xs → x < n) → length xs ≤ n
pigeons zero [] d h = omega arith
pigeons zero (x ∷ xs) d h = let l = h x (inl refl) in absurd (omega arith)
pigeons (suc n) xs d h = elim (member? n xs) [
  | yes m ↦
      let (p, q) = without_distinct n xs m d in
      let l = pigeons n (without n xs m) p (λ x i. below x (h x (without_member n xs m x i)) (λ e. q (rw e at i))) in
      omega (arith, without_length n xs m)
  | no q ↦ let l = pigeons n xs d (λ x i. below x (h x i) (λ e. q (rw e at i))) in omega arith
]
  where
    below : (x : ℕ) → x < suc n → x ≢ n → x < n
    below x h d = omega arith

module _ {A : Type 0} {nil : A} {plus : A → A → A} {le : A → A → Type 0} (L : Amounts nil plus le) {E : ℕ → ℕ → A → Type 0} (loops : (i : ℕ) (s : A) → Walk plus E Any i i s → le nil s) where
  -- the row from where it meets x again
  back : {x m j : ℕ} {vs : List ℕ} {b t : A} → Row nil plus E m vs j t → Walk plus E Any x m b → Member x vs → Distinct vs → Simple nil plus le E x j (plus b t)
  back {b = b} (stop {j = j}) w (inl e) d = rw e record { names = j ∷ []; sum = nil; row = stop; once = d; less = drop_front L b nil (loops j b (rw e at w)) }
  back (stop {j = j}) w (inr m) d = absurd m
  back {b = b} (on {i = i} {vs = vs} {s = s} e r q) w (inl p) d = rw p record { names = i ∷ vs; sum = s; row = on e r q; once = d; less = drop_front L b s (loops i b (rw p at w)) }
  back {b = b} (on {a = a} {t = t} e r q) w (inr m) d =
      let c = back r (join L w tt (one e)) m d.1 in
      record { names = c.names; sum = c.sum; row = c.row; once = c.once; less = rw (q, ← L.assoc b a t) c.less }

  extend : {i k j : ℕ} {a s : A} → E i k a → Simple nil plus le E k j s → Simple nil plus le E i j (plus a s)
  extend {i} {a = a} e c = elim (member? i c.names) [
    | yes m ↦ let b = back c.row (one e) m c.once in record { names = b.names; sum = b.sum; row = b.row; once = b.once; less = L.trans _ _ _ b.less (mono_right L _ _ a c.less) }
    | no m ↦ record { names = i ∷ c.names; sum = plus a c.sum; row = on e c.row refl; once = (m, c.once); less = mono_right L _ _ a c.less }
  ]

  pub simple : {i j : ℕ} {s : A} → Walk plus E Any i j s → Simple nil plus le E i j s
  simple (one {j = j} {a = a} e) = rw (← (unit_right L a)) (extend e record { names = j ∷ []; sum = nil; row = stop; once = (λ h. h, tt); less = L.refl_le nil })
  simple (step e p w q) = rw q (extend e (simple w))

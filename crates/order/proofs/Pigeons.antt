-- n different numbers below n are all the numbers below n.
use Rattle.std.proofs.Common.{◌≡◌, ℕ, zero, suc, ◌-◌, ◌<◌, cond, ltb, ◌⊎◌, sym, ap, ◌∙◌, inl, inr, ⊎_elim, arith}
use Rattle.std.proofs.lemmas.Bool.{cond_both, ltb-true, ltb-false, cases_eq}

-- the numbers without v, closed up
abbrev pub shrink : ℕ → ℕ → ℕ
shrink v x = cond (ltb v x) (x - 1) x

shrink_below : (m v x : ℕ) → x < suc m → v < suc m → (x ≡ v → ⊥) → shrink v x < m
shrink_below m v x p q ne = cond_both (ltb v x) (x - 1) x (λ y. y < m) (λ e. omega (arith, ltb-true v x e)) (λ e. omega (arith, ltb-false v x e))

shrink_inj : (v x y : ℕ) → (x ≡ v → ⊥) → (y ≡ v → ⊥) → shrink v x ≡ shrink v y → x ≡ y
shrink_inj v x y nx ny =
    cond_both (ltb v x) (x - 1) x (λ a. a ≡ shrink v y → x ≡ y)
    (λ e. cond_both (ltb v y) (y - 1) y (λ b. x - 1 ≡ b → x ≡ y)
    (λ f h. omega (arith, ltb-true v x e, ltb-true v y f)) (λ f h. omega (arith, ltb-true v x e, ltb-false v y f)))
    (λ e. cond_both (ltb v y) (y - 1) y (λ b. x ≡ b → x ≡ y)
    (λ f h. omega (arith, ltb-false v x e, ltb-true v y f)) (λ f h. h))

-- no m + 1 numbers below m are all different
pub no_squeeze : (m : ℕ) (f : ℕ → ℕ) → ((r : ℕ) → r < suc m → f r < m) → ((r s : ℕ) → r < suc m → s < suc m → f r ≡ f s → r ≡ s) → ⊥
no_squeeze zero f low inj = omega (arith, low 0 (omega arith))
no_squeeze (suc m) f low inj =
    let apart : (r : ℕ) → r < suc m → f r ≡ f (suc m) → ⊥ = λ r p e. omega (arith, inj r (suc m) (omega arith) (omega arith) e) in
    no_squeeze m (λ r. shrink (f (suc m)) (f r))
    (λ r p. shrink_below m (f (suc m)) (f r) (low r (omega arith)) (low (suc m) (omega arith)) (apart r p))
    (λ r s p q e. inj r s (omega arith) (omega arith) (shrink_inj (f (suc m)) (f r) (f s) (apart r p) (apart s q) e))

-- whether one of the first k is e
among : (f : ℕ → ℕ) (e k : ℕ) → ((r : ℕ) × (r < k) × (f r ≡ e)) ⊎ ((r : ℕ) → r < k → f r ≡ e → ⊥)
among f e zero = inr (λ r p h. omega arith)
among f e (suc k) = ⊎_elim
    (λ t. inl (t.0, omega (arith, t.1), t.2))
    (λ none. ⊎_elim (λ h. inl (k, omega arith, h)) (λ off. inr (λ r p h. ⊎_elim (λ same. off (ap f (sym same) ∙ h)) (λ ne. none r (omega arith) h) (cases_eq r k))) (cases_eq (f k) e))
    (among f e k)

pub covered : (n : ℕ) (f : ℕ → ℕ) → ((r : ℕ) → r < n → f r < n) → ((r s : ℕ) → r < n → s < n → f r ≡ f s → r ≡ s) → (e : ℕ) → e < n → (r : ℕ) × (r < n) × (f r ≡ e)
covered zero f low inj e p = absurd (omega arith)
covered (suc m) f low inj e p = ⊎_elim (λ t. t)
    (λ none. absurd (no_squeeze m (λ r. shrink e (f r)) (λ r q. shrink_below m e (f r) (low r q) p (none r q))
    (λ r s q t h. inj r s q t (shrink_inj e (f r) (f s) (none r q) (none s t) h))))
    (among f e (suc m))

-- What a push does to a row of bounds.
use Rattle.std.proofs.Common.{◌≡◌, ℕ, ◌<◌, ◌≢◌, List, [], ◌∷◌, ℤ, Some, None, Option, sym, refl, ap, ◌∙◌, subst, arith}
use native.Mathlib.Decide.{ℕ_discrete}
use Rattle.kinds.specs.Arithmetic.{Arithmetic, Amount, Lawful}
use Rattle.elimination.specs.Amounts.{Amounts}
use Rattle.elimination.specs.Walks.{Walk, Any}
use Rattle.elimination.specs.Walks.Walk.{one, step}
use Rattle.elimination.specs.Simple.{Row}
use Rattle.elimination.specs.Simple.Row.{stop, on}
use Rattle.elimination.proofs.Order.{mono_right, le_eq}
use Rattle.elimination.specs.Held.{Held, plus, le}
use Rattle.elimination.proofs.Laws.{same, amounts}
use Rattle.eliminator.specs.Views.{Grid}
use Rattle.eliminator.specs.State.{Traced}
use Rattle.closing.specs.Trace.{choose, pushed, Rows, Onward, Splits}

module _ {A : Type 0} {nil : A} {plus : A → A → A} {le : A → A → Type 0} (L : Amounts nil plus le) {E : ℕ → ℕ → A → Type 0} where
  -- a row and one bound more
  around : {x i : ℕ} {vs : List ℕ} {s : A} → Row nil plus E x vs i s → {v : ℕ} {c : A} → E i v c → Walk plus E Any x v (plus s c)
  around stop {c = c} e = rw (L.unit c) (one e)
  around (on {a = a} {t = t} f r q) {c = c} e = step f tt (around r e) (ap (λ z. plus z c) q ∙ L.assoc a t c)

  -- a push: what it cuts is a loop
  pub push_row : ((x : ℕ) (s : A) → Walk plus E Any x x s → le nil s) → {x i : ℕ} {vs : List ℕ} {s : A} → Row nil plus E x vs i s → {v : ℕ} {c : A} → E i v c → (t : A) × Row nil plus E x (pushed vs v) v t × le t (plus s c)
  push_row calm (stop {j = x}) {v} {c} e = go (ℕ_discrete x v)
    where
      go : (d : Dec (x ≡ v)) → (t : A) × Row nil plus E x (choose d (x ∷ []) (x ∷ v ∷ [])) v t × le t (plus nil c)
      go (yes q) = (nil, subst (λ (z : ℕ). Row nil plus E x (x ∷ []) z nil) q stop, rw (L.unit c) (calm x c (let w : Walk plus E Any x v c = one e in rw (← q) at w)))
      go (no q) = (plus nil c, on e stop (L.comm nil c), L.refl_le _)
  push_row calm (on {i = x} {k = k} {vs = vs} {a = a} {s = s} {t = t} f r q) {v} {c} e = go (ℕ_discrete x v) (push_row calm r e)
    where
      go : (d : Dec (x ≡ v)) → (u : A) × Row nil plus E k (pushed vs v) v u × le u (plus t c) → (u : A) × Row nil plus E x (choose d (x ∷ []) (x ∷ pushed vs v)) v u × le u (plus s c)
      go (yes z) h = (nil, subst (λ (z : ℕ). Row nil plus E x (x ∷ []) z nil) z stop, calm x _ (rw (← z) at (around (on f r q) e)))
      go (no z) h = (plus a h.0, on f h.1 refl, rw (q, L.assoc a t c) (mono_right L _ _ a h.2))

-- two sums, one after the other
pub chain : {A : Type 0} {nil : A} {plus : A → A → A} {le : A → A → Type 0} (L : Amounts nil plus le) (s b e c x y : A) → le x (plus s b) → le y (plus x e) → c ≡ plus b e → le y (plus s c)
chain {plus = plus} L s b e c x y p q z = L.trans _ _ _ q (L.trans _ _ _ (L.mono _ _ e p) (le_eq L _ _ (L.assoc s b e ∙ ap (plus s) (sym z))))

-- the bound that is held is the sum of its two parts
pub in_parts : {K : Type 0} {A : Arithmetic} (L : Lawful A) (amount : K → List ℤ) {o : Option K} {sum : K} (b e c : Held A) → (w : K) × (o ≡ Some w) × (c.0 ≡ amount w) → o ≡ Some sum → amount sum ≡ A.plus b.0 e.0 → c ≡ plus L b e
in_parts L amount {sum = sum} b e c w s adds =
    let u = w.1 in
    let one : w.0 ≡ sum = cc in
    same L c (plus L b e) (w.2 ∙ ap amount one ∙ adds)

module _ {K : Type 0} {A : Arithmetic} {amount : K → List ℤ} (n : ℕ) (xs : Grid K) (i j : ℕ) (hi : i < n) (hj : j < n) where
  -- what is not split is in force
  pub unsplit : (hi' : ℕ) → Traced A amount n hi' xs → i ≢ j → ((v : ℕ) → Splits n xs i j v → ⊥) → (xs i j).worked ≡ (xs i j).bound
  unsplit m t d none = go (xs i j).via refl
    where
      go : (o : Option ℕ) → (xs i j).via ≡ o → (xs i j).worked ≡ (xs i j).bound
      go None e = t.plain i j hi hj d e
      go (Some v) e = let s = t.split i j v hi hj d e in absurd (none v (record { via_is = e; low_i = s.low_i; low_j = s.low_j; within = s.within }))

  pub onward_one : (vs ws : List ℕ) → ((v : ℕ) → Splits n xs i j v → ⊥) → ws ≡ pushed vs j → Onward A amount n xs i j vs ws
  onward_one vs ws none e L lo m a s c t calm d h w r =
      subst (λ (us : List ℕ). (t : Held A) × Rows L amount n lo xs a us j t × le A t (plus L s c)) (sym e)
      (push_row (amounts L) calm r {c = c} ((w.0, w.1, (w.2.0, sym (unsplit m t d none) ∙ w.2.1, w.2.2)), h))

  pub onward_two : ((x : K) → Amount A (amount x)) → (v : ℕ) (us vs ws : List ℕ) → Splits n xs i j v → Onward A amount n xs i v us vs → Onward A amount n xs v j vs ws → Onward A amount n xs i j us ws
  onward_two proper v us vs ws z f g L lo m a s c t calm d h w r =
      let p = t.split i j v hi hj d z.via_is in
      let b : Held A = (amount p.front, proper p.front) in
      let e : Held A = (amount p.back, proper p.back) in
      let (x, rx, lx) = f L lo m a s b t calm (let q = z.low_i in omega arith) (let q = z.low_j in omega arith) (hi, z.within, (p.front, p.front_is, refl)) r in
      let (y, ry, ly) = g L lo m a x e t calm (let q = z.low_j in omega arith) h (z.within, hj, (p.back, p.back_is, refl)) rx in
      (y, ry, chain (amounts L) s b e c x y lx ly (in_parts L amount b e c w.2 p.sum_is p.adds))

-- Why a worked bound is small: it is the sum of a walk that names no event twice.
use mathlib.Core.Path.{◌≡◌, refl, sym, ap, ◌∙◌}
use mathlib.Core.Logic.{◌⊎◌, inl, inr, ◌≢◌}
use mathlib.Core.List.{List}
use Prim.Native.Nat.{ℕ, ◌+◌, ◌-◌, ◌*◌, ◌^◌, ◌≤◌, ◌<◌, zero, suc}
use native.Mathlib.Omega.{arith}
use native.Mathlib.Nat.{eq-or-lt_of_le}
use native.Mathlib.Decide.{dec_le}
use lib.ListN.{length}
use Rattle.elimination.specs.Amounts.{Amounts}
use Rattle.elimination.specs.Walks.{Walk, Any, Exact, Ring, Kept, Swept}
use Rattle.elimination.specs.Walks.Walk.{one, step}
use Rattle.elimination.specs.Simple.{Member, Row}
use Rattle.elimination.specs.Simple.Row.{stop, on}
use Rattle.elimination.proofs.Order.{unit_right, drop_back}
use Rattle.elimination.proofs.Rows.{join, loosen, cut}
use Rattle.elimination.proofs.Short.{simple, pigeons}
use Rattle.elimination.specs.Sizes.{Measured, Net}

module _ {A : Type 0} {nil : A} {plus : A → A → A} {le : A → A → Type 0} (L : Amounts nil plus le) {E : ℕ → ℕ → A → Type 0} where
  -- a row of two events or more is a walk
  behind : {k j : ℕ} {vs : List ℕ} {t : A} → Row nil plus E k vs j t → {i : ℕ} {a : A} → E i k a → Walk plus E Any i j (plus a t)
  behind stop {a = a} e = rw (unit_right L a) (one e)
  behind (on f r q) {a = a} e = step e tt (behind r f) (ap (plus a) q)

  pub from_row : {i j : ℕ} {vs : List ℕ} {s : A} → Row nil plus E i vs j s → i ≢ j → Walk plus E Any i j s
  from_row stop d = absurd (d refl)
  from_row (on e r q) d = rw q (behind r e)

  pub names_within : (n : ℕ) → ((i j : ℕ) (a : A) → E i j a → (i < n) × (j < n)) → {i j : ℕ} {vs : List ℕ} {s : A} → Row nil plus E i vs j s → i < n → (z : ℕ) → Member z vs → z < n
  names_within n within (stop {j = j}) h z (inl e) = rw e h
  names_within n within (stop {j = j}) h z (inr m) = absurd m
  names_within n within (on e r q) h z (inl p) = rw p h
  names_within n within (on e r q) h z (inr m) = names_within n within r (within _ _ _ e).1 z m

  pub row_size : {size : A → ℕ} → Measured nil plus le size → ((i j : ℕ) (a : A) → E i j a → size a ≤ 2 ^ 40) → {i j : ℕ} {vs : List ℕ} {s : A} → Row nil plus E i vs j s → size s + 2 ^ 40 ≤ length vs * 2 ^ 40
  row_size Z small stop = let h = Z.size_nil in omega arith
  row_size {size} Z small (on {a = a} {s = s} {t = t} e r q) =
      let h = row_size Z small r in
      let l = small _ _ _ e in
      let p = Z.size_plus a t in
      let z : size s ≡ size (plus a t) = ap size q in
      omega arith

  -- all loops over the events from k on sum to zero at least, wherever they begin
  module _ (n k : ℕ) (within : (i j : ℕ) (a : A) → E i j a → (i < n) × (j < n)) where
    none_past : {X : Type 0} {x y : ℕ} {s : A} → n ≤ x → Walk plus E (λ z. n ≤ z) x y s → X
    none_past h (one e) = let t = within _ _ _ e in absurd (omega arith)
    none_past h (step e p w q) = let t = within _ _ _ e in absurd (omega arith)

    module _ {W : ℕ → ℕ → A → Type 0} (rings : (m : ℕ) → k ≤ m → m < n → Ring nil plus le E m W) where
      inside : (d h : ℕ) → h + d ≡ n → k ≤ h → (x : ℕ) (s : A) → h ≤ x → Walk plus E (λ y. h ≤ y) x x s → le nil s
      inside zero h e p x s hx w = none_past (omega arith) (loosen (λ y t. omega arith) w)
      inside (suc d) h e p x s hx w =
          let ring = rings h p (omega arith) in
          elim (cut L h ring.loops w) [
            | inl c ↦ elim (eq-or-lt_of_le hx) [
              | inl at ↦ L.trans _ _ _ (ring.loops _ (rw (← at) at c.row)) c.less
              | inr past ↦ L.trans _ _ _ (inside d (suc h) (omega arith) (omega arith) x _ past c.row) c.less
            ]
            | inr c ↦ elim (eq-or-lt_of_le hx) [
              | inl at ↦ L.trans _ _ _ (ring.loops _ (rw (← at) at c.before)) (L.trans _ _ _ (drop_back L _ _ (ring.loops _ (rw (← at) at c.after))) c.less)
              | inr past ↦ L.trans _ _ _ (rw (L.comm c.front c.back) (ring.loops _ (join L c.after past c.before))) c.less
            ]
          ]

      -- those that keep to the events from k on
      pub upper_calm : k ≤ n → (x : ℕ) (s : A) → k ≤ x → Walk plus E (λ y. k ≤ y) x x s → le nil s
      upper_calm h x s p w = inside (n - k) k (omega arith) (omega arith) x s p w

    pub all_calm : {W : ℕ → ℕ → A → Type 0} → Kept nil plus le E n k W → k ≤ n → (x : ℕ) (s : A) → Walk plus E (λ y. k ≤ y) x x s → le nil s
    all_calm inv h x s w = elim (dec_le k x) [
      | yes p ↦ upper_calm inv.rings h x s p w
      | no p ↦ inv.worked.loops x s (omega arith) w
    ]

-- the legs of a walk from i to j with P inside
abbrev Leg : {A : Type 0} (E : ℕ → ℕ → A → Type 0) (P : ℕ → Type 0) (i j : ℕ) → ℕ → ℕ → A → Type 0
Leg E P i j x y a = E x y a × (P x ⊎ (x ≡ i)) × (P y ⊎ (y ≡ j))

both : (P : ℕ → Type 0) (i j : ℕ) → i ≢ j → (y : ℕ) → P y ⊎ (y ≡ j) → P y ⊎ (y ≡ i) → P y
both P i j d y (inl p) t = p
both P i j d y (inr e) (inl p) = p
both P i j d y (inr e) (inr f) = absurd (d (sym f ∙ e))

module _ {A : Type 0} {plus : A → A → A} (E : ℕ → ℕ → A → Type 0) (P : ℕ → Type 0) (i j : ℕ) where
  narrow : {x y : ℕ} {s : A} → Walk plus E P x y s → y ≡ j → P x ⊎ (x ≡ i) → Walk plus (Leg E P i j) Any x y s
  narrow (one e) z h = one (e, h, inr z)
  narrow (step e p w q) z h = step (e, h, inl p) tt (narrow w z (inl p)) q

  source : {x y : ℕ} {s : A} → Walk plus (Leg E P i j) Any x y s → P x ⊎ (x ≡ i)
  source (one e) = e.1
  source (step e p w q) = e.1

  widen : i ≢ j → {x y : ℕ} {s : A} → Walk plus (Leg E P i j) Any x y s → Walk plus E P x y s
  widen d (one e) = one e.0
  widen d (step e p w q) = step e.0 (both P i j d _ e.2 (source w)) (widen d w) q

module _ {A : Type 0} {nil : A} {plus : A → A → A} {le : A → A → Type 0} (L : Amounts nil plus le) {size : A → ℕ} (Z : Measured nil plus le size) {E : ℕ → ℕ → A → Type 0} (n : ℕ) (net : Net nil le size E n) where
  -- what is exact over walks whose loops are calm is small
  pub exact_size : {P : ℕ → Type 0} {R : A → Type 0} (i j : ℕ) → i ≢ j → ((x : ℕ) (s : A) → Walk plus E P x x s → le nil s) → Exact nil plus le E P R i j → ((a b : A) → R a → R b → a ≡ b) → i < n → (a : A) → R a → size a + 2 ^ 40 ≤ n * 2 ^ 40
  exact_size {P} i j d calm x single h a r =
      let c = simple L {E = Leg E P i j} (λ y s w. calm y s (widen E P i j d w)) (narrow E P i j (x.sound a r) refl (inr refl)) in
      let (b, t, l) = x.least c.sum (widen E P i j d (from_row L c.row d)) in
      let same : b ≡ a = single b a t r in
      let e : a ≡ c.sum = Z.anti a c.sum (rw same at l) c.less in
      let f : size a ≡ size c.sum = ap size e in
      let z = row_size L Z (λ x y b e. net.small x y b e.0) c.row in
      let o = pigeons n c.names c.once (names_within L n (λ x y b e. net.within x y b e.0) c.row h) in
      omega arith

module _ {A : Type 0} {nil : A} {plus : A → A → A} {le : A → A → Type 0} (L : Amounts nil plus le) {size : A → ℕ} (Z : Measured nil plus le size) {E : ℕ → ℕ → A → Type 0} (n : ℕ) (net : Net nil le size E n) {W : ℕ → ℕ → A → Type 0} (inv : Kept nil plus le E n 0 W) where
  -- after the elimination no loop at all sums to less than zero
  pub no_loops : {P : ℕ → Type 0} (x : ℕ) (s : A) → Walk plus E P x x s → le nil s
  no_loops x s w = all_calm L n 0 net.within inv (omega arith) x s (loosen (λ y h. omega arith) w)

  pub swept_small : (k : ℕ) {D : ℕ → ℕ → A → Type 0} → Swept nil plus le E k D → (i j : ℕ) → ((a b : A) → D i j a → D i j b → a ≡ b) → k ≤ n → i < k → j < k → i ≢ j → (a : A) → D i j a → size a + 2 ^ 40 ≤ n * 2 ^ 40
  swept_small k s i j single h p q d a v = exact_size L Z n net i j d no_loops (s.pair i j p q d) single (omega arith) a v

  pub into_small : (k j : ℕ) → ((a b : A) → W j k a → W j k b → a ≡ b) → k < n → j < k → (a : A) → W j k a → size a + 2 ^ 40 ≤ n * 2 ^ 40
  into_small k j single h p a w = exact_size L Z n net j k (omega arith) no_loops ((inv.rings k (omega arith) h).into j p) single (omega arith) a w

  pub out_small : (k j : ℕ) → ((a b : A) → W k j a → W k j b → a ≡ b) → k < n → j < k → (a : A) → W k j a → size a + 2 ^ 40 ≤ n * 2 ^ 40
  out_small k j single h p a w = exact_size L Z n net k j (omega arith) no_loops ((inv.rings k (omega arith) h).out j p) single (omega arith) a w

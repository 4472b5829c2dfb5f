-- One step of the elimination.
use mathlib.Core.Logic.{◌⊎◌, inl, inr, ◌≢◌}
use Prim.Native.Nat.{ℕ, ◌≤◌, ◌<◌, suc}
use native.Mathlib.Omega.{arith}
use Rattle.elimination.specs.Amounts.{Amounts}
use Rattle.elimination.specs.Walks.{Walk, Below, Around, Worked, Ring, Tests, Eliminates}
use Rattle.elimination.specs.Walks.Walk.{one, step}
use Rattle.elimination.proofs.Order.{mono_both}
use Rattle.elimination.proofs.Rows.{loosen, join, cut}

module _ {A : Type 0} {zero : A} {plus : A → A → A} {le : A → A → Type 0} (L : Amounts zero plus le) {E : ℕ → ℕ → A → Type 0} where
  -- at the start: no bound stands from or to what lies at n or above
  module _ (n : ℕ) (within : (i j : ℕ) (a : A) → E i j a → (i < n) × (j < n)) (calm : (i : ℕ) (a : A) → E i i a → le zero a) where
    only_one : {i j : ℕ} {s : A} → Walk plus E (λ x. n ≤ x) i j s → E i j s
    only_one (one e) = e
    only_one (step {i = i} {k = k} {a = a} e p w q) = let h = within i k a e in absurd (omega arith)

    pub starts : Worked zero plus le E n E
    starts = record {
      pair = λ i j hi hj d. record { sound = λ a e. one e; least = λ s w. (s, only_one w, L.refl_le s) };
      loops = λ i s hi w. calm i s (only_one w);
    }

  module _ (k : ℕ) {W : ℕ → ℕ → A → Type 0} (inv : Worked zero plus le E (suc k) W) where
    -- what a state of the work says of its highest event
    pub ring : Ring zero plus le E k W
    ring = record {
      into = λ i h. inv.pair i k (omega arith) (omega arith) (omega arith);
      out = λ i h. inv.pair k i (omega arith) (omega arith) (omega arith);
      loops = λ s w. inv.loops k s (omega arith) w;
    }

    module _ {V : ℕ → ℕ → A → Type 0} (tests : Tests zero plus le k W) (next : Eliminates zero plus le k W V) where
      -- a walk that meets k once
      least_of : (i j : ℕ) (s : A) → i < k → j < k → i ≢ j → Below zero plus le E (λ x. k < x) i j s ⊎ Around zero plus le E k (λ x. k < x) i j s → (a : A) × V i j a × le a s
      least_of i j s hi hj d (inl c) =
          let (a, w, l) = (inv.pair i j (omega arith) (omega arith) d).least c.sum c.row in
          let (b, v, m) = next.keeps i j a hi hj d w in
          (b, v, L.trans _ _ _ m (L.trans _ _ _ l c.less))
      least_of i j s hi hj d (inr c) =
          let (a, w, l) = (ring.into i hi).least c.front c.before in
          let (b, v, m) = (ring.out j hj).least c.back c.after in
          let (z, u, o) = next.tries i j a b hi hj d w v in
          (z, u, L.trans _ _ _ o (L.trans _ _ _ (mono_both L _ _ _ _ l m) c.less))

      loop_of : (i : ℕ) (s : A) → i < k → Below zero plus le E (λ x. k < x) i i s ⊎ Around zero plus le E k (λ x. k < x) i i s → le zero s
      loop_of i s hi (inl c) = L.trans _ _ _ (inv.loops i c.sum (omega arith) c.row) c.less
      loop_of i s hi (inr c) =
          let (a, w, l) = (ring.into i hi).least c.front c.before in
          let (b, v, m) = (ring.out i hi).least c.back c.after in
          L.trans _ _ _ (tests i a b hi w v) (L.trans _ _ _ (mono_both L _ _ _ _ l m) c.less)

      sound_of : (i j : ℕ) (a : A) → i < k → j < k → i ≢ j → V i j a → Walk plus E (λ x. k ≤ x) i j a
      sound_of i j a hi hj d v = elim (next.from i j a hi hj d v) [
        | inl w ↦ loosen (λ x h. omega arith) ((inv.pair i j (omega arith) (omega arith) d).sound a w)
        | inr c ↦ rw c.4 (join L (loosen (λ x h. omega arith) ((ring.into i hi).sound _ c.2)) (omega arith) (loosen (λ x h. omega arith) ((ring.out j hj).sound _ c.3)))
      ]

      pub eliminated : Worked zero plus le E k V
      eliminated = record {
        pair = λ i j hi hj d. record { sound = λ a v. sound_of i j a hi hj d v; least = λ s w. least_of i j s hi hj d (cut L k ring.loops w) };
        loops = λ i s hi w. loop_of i s hi (cut L k ring.loops w);
      }

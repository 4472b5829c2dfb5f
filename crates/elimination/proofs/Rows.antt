-- Joining and splitting walks.
use mathlib.Core.Path.{refl, sym, ap, ◌∙◌}
use mathlib.Core.Logic.{◌⊎◌, inl, inr}
use Prim.Native.Nat.{ℕ, ◌≤◌, ◌<◌}
use native.Mathlib.Nat.{eq-or-lt_of_le}
use Rattle.elimination.specs.Amounts.{Amounts}
use Rattle.elimination.specs.Walks.{Walk, Parts, Below, Around}
use Rattle.elimination.specs.Walks.Walk.{one, step}
use Rattle.elimination.proofs.Order.{drop_front, mono_right}

-- a walk under a looser rule on what lies inside
pub loosen : {A : Type 0} {plus : A → A → A} {E : ℕ → ℕ → A → Type 0} {P Q : ℕ → Type 0} → ((x : ℕ) → P x → Q x) → {i j : ℕ} {s : A} → Walk plus E P i j s → Walk plus E Q i j s
loosen f (one e) = one e
loosen f (step e p w q) = step e (f _ p) (loosen f w) q

module _ {A : Type 0} {zero : A} {plus : A → A → A} {le : A → A → Type 0} (L : Amounts zero plus le) {E : ℕ → ℕ → A → Type 0} where
  pub join : {P : ℕ → Type 0} {i k j : ℕ} {s t : A} → Walk plus E P i k s → P k → Walk plus E P k j t → Walk plus E P i j (plus s t)
  join (one e) p v = step e p v refl
  join {t = t} (step {a = a} {t = r} e p w q) p' v = step e p (join w p' v) (ap (λ x. plus x t) q ∙ L.assoc a r t)

  module _ {P Q R : ℕ → Type 0} (dec : (x : ℕ) → R x → P x ⊎ Q x) where
    -- at the first event of Q
    pub first : {i j : ℕ} {s : A} → Walk plus E R i j s → Walk plus E P i j s ⊎ Parts plus E P Q R i j s
    first (one e) = inl (one e)
    first (step {k = k} {a = a} {t = t} e r w q) = elim (dec k r) [
      | inl p ↦ elim (first w) [
        | inl v ↦ inl (step e p v q)
        | inr c ↦ inr (record {
          at = c.at;
          there = c.there;
          front = plus a c.front;
          back = c.back;
          before = step e p c.before refl;
          after = c.after;
          sums = q ∙ ap (plus a) c.sums ∙ sym (L.assoc a c.front c.back);
        })
      ]
      | inr x ↦ inr (record { at = k; there = x; front = a; back = t; before = one e; after = w; sums = q })
    ]

    -- at the last
    pub last : {i j : ℕ} {s : A} → Walk plus E R i j s → Walk plus E P i j s ⊎ Parts plus E R Q P i j s
    last (one e) = inl (one e)
    last (step {k = k} {a = a} {t = t} e r w q) = elim (last w) [
      | inl v ↦ elim (dec k r) [
        | inl p ↦ inl (step e p v q)
        | inr x ↦ inr (record { at = k; there = x; front = a; back = t; before = one e; after = v; sums = q })
      ]
      | inr c ↦ inr (record {
        at = c.at;
        there = c.there;
        front = plus a c.front;
        back = c.back;
        before = step e r c.before refl;
        after = c.after;
        sums = q ∙ ap (plus a) c.sums ∙ sym (L.assoc a c.front c.back);
      })
    ]

  -- a walk over events from k on comes to no less than one that meets k at most once
  module _ (k : ℕ) (loops : (t : A) → Walk plus E (λ x. k < x) k k t → le zero t) where
    pub cut : {i j : ℕ} {s : A} → Walk plus E (λ x. k ≤ x) i j s → Below zero plus le E (λ x. k < x) i j s ⊎ Around zero plus le E k (λ x. k < x) i j s
    cut (one {a = a} e) = inl (record { sum = a; row = one e; less = L.refl_le a })
    cut (step {k = m} {a = a} {s = s} {t = t} e r w q) = elim (eq-or-lt_of_le r) [
      | inl at ↦ inr (elim (cut w) [
        | inl c ↦ record {
          front = a;
          back = c.sum;
          before = one (rw (← at) at e);
          after = rw (← at) at c.row;
          less = rw q (mono_right L _ _ a c.less);
        }
        | inr c ↦ record {
          front = a;
          back = c.back;
          before = one (rw (← at) at e);
          after = c.after;
          less = rw q (mono_right L _ _ a (L.trans _ _ _ (drop_front L _ c.back (loops _ (rw (← at) at c.before))) c.less));
        }
      ])
      | inr past ↦ elim (cut w) [
        | inl c ↦ inl (record {
          sum = plus a c.sum;
          row = step e past c.row refl;
          less = rw q (mono_right L _ _ a c.less);
        })
        | inr c ↦ inr (record {
          front = plus a c.front;
          back = c.back;
          before = step e past c.before refl;
          after = c.after;
          less = rw (q, L.assoc a c.front c.back) (mono_right L _ _ a c.less);
        })
      ]
    ]

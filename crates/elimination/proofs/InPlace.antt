-- The elimination in one table.
use mathlib.Core.Path.{◌≡◌}
use mathlib.Core.Logic.{◌⊎◌, inl, inr}
use Prim.Native.Nat.{ℕ, ◌≤◌, ◌<◌, suc}
use native.Mathlib.Omega.{arith}
use native.Mathlib.Nat.{eq-or-lt_of_le}
use Rattle.elimination.specs.Amounts.{Amounts}
use Rattle.elimination.specs.Walks.{Exact, Ring, Kept, Tests, Eliminates}
use Rattle.elimination.proofs.Steps.{starts, ring, eliminated}

module _ {A : Type 0} {zero : A} {plus : A → A → A} {le : A → A → Type 0} (L : Amounts zero plus le) {E : ℕ → ℕ → A → Type 0} where
  pub carry : {P : ℕ → Type 0} {R S : A → Type 0} {i j : ℕ} → ((a : A) → (S a → R a) × (R a → S a)) → Exact zero plus le E P R i j → Exact zero plus le E P S i j
  carry f x = record {
    sound = λ a s. x.sound a ((f a).0 s);
    least = λ s w. let (a, r, l) = x.least s w in (a, (f a).1 r, l);
  }

  pub kept_start : (n : ℕ) → ((i j : ℕ) (a : A) → E i j a → (i < n) × (j < n)) → ((i : ℕ) (a : A) → E i i a → le zero a) → Kept zero plus le E n n E
  kept_start n within calm = record { worked = starts L n within calm; rings = λ m p q. absurd (omega arith) }

  module _ (n k : ℕ) {W : ℕ → ℕ → A → Type 0} (inv : Kept zero plus le E n (suc k) W) where
    pub kept_next : {V : ℕ → ℕ → A → Type 0} → Tests zero plus le k W → Eliminates zero plus le k W V → Kept zero plus le E n k V
    kept_next {V} tests next = record { worked = eliminated L k inv.worked tests next; rings = λ m p q. turned m p (before m q (eq-or-lt_of_le p)) }
      where
        before : (m : ℕ) → m < n → (k ≡ m) ⊎ (k < m) → Ring zero plus le E m W
        before m q (inl e) = rw (← e) (ring L k inv.worked)
        before m q (inr p) = inv.rings m p q

        turned : (m : ℕ) → k ≤ m → Ring zero plus le E m W → Ring zero plus le E m V
        turned m p r = record {
          into = λ i h. carry (λ a. next.rest i m a (inr p)) (r.into i h);
          out = λ i h. carry (λ a. next.rest m i a (inl p)) (r.out i h);
          loops = r.loops;
        }

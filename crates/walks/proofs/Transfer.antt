-- Walks, loops, schedules, distances and windows depend on nothing but which bounds are in force.
use Rattle.std.proofs.Common.{◌≡◌, ℕ, ◌<◌, List, ℤ, Some, None, Option, refl, subst, arith}
use Rattle.kinds.specs.Arithmetic.{Arithmetic, Amount}
use Rattle.walks.specs.Bounds.{Within, amount_of, amounts_of}
use Rattle.walks.specs.Walks.{Walk, Route, UnderZero, Loop, Schedule, Told, Window}
use Rattle.walks.specs.Walks.Walk.{alone, on}

module _ {A : Arithmetic} {E G : ℕ → ℕ → List ℤ → Type 0} (f : (i j : ℕ) (a : List ℤ) → E i j a → G i j a) where
  pub rewalk : {i j : ℕ} {vs : List ℕ} {s : List ℤ} → Walk A E i vs j s → Walk A G i vs j s
  rewalk alone = alone
  rewalk (on e w q) = on (f _ _ _ e) (rewalk w) q

  pub reroute : {i j : ℕ} {events : List ℕ} {s : List ℤ} → Route A E i j events s → Route A G i j events s
  reroute r = record { front = r.front; shown = r.shown; walk = rewalk r.walk; once = r.once }

  pub reunder : {events : List ℕ} → UnderZero A E events → UnderZero A G events
  reunder l = record { at = l.at; rest = l.rest; shown = l.shown; sum = l.sum; walk = rewalk l.walk; negative = l.negative }

  pub reloop : {events : List ℕ} → Loop A E events → Loop A G events
  reloop l = record { at = l.at; rest = l.rest; shown = l.shown; sum = l.sum; walk = rewalk l.walk; once = l.once; negative = l.negative }

  -- the other way round
  unfoldable pub reschedule : Schedule A G → Schedule A E
  reschedule s = record { time = s.time; amounts = s.amounts; keeps = λ i j w e. s.keeps i j w (f i j w e) }

module _ (A : Arithmetic) {E G : ℕ → ℕ → List ℤ → Type 0} (f : (i j : ℕ) (a : List ℤ) → E i j a → G i j a) (g : (i j : ℕ) (a : List ℤ) → G i j a → E i j a) where
  pub retold : (i j : ℕ) (d : Option (List ℤ)) → Told A E i j d → Told A G i j d
  retold i j None t = λ vs s w. t vs s (rewalk g w)
  retold i j (Some d) t = ((t.0.0, rewalk f t.0.1), λ vs s w. t.1 vs s (rewalk g w))

  pub rewindow : (i j : ℕ) (ends : Option (List ℤ) × Option (List ℤ)) → Window A E i j ends → Window A G i j ends
  unfolding reschedule
  rewindow i j ends w x p = (λ h. let (s, q) = (w x p).0 h in (reschedule g s, q), λ s. (w x p).1 (reschedule f s.0, s.1))

-- the bounds of a kind, as amounts
pub amount_of_some : {K : Type 0} (amount : K → List ℤ) (o : Option K) (a : List ℤ) → amount_of amount o ≡ Some a → (w : K) × (o ≡ Some w) × (amount w ≡ a)
amount_of_some amount None a e = let z : ◌≡◌ {A = ℕ} 0 1 = cc in absurd (omega arith)
amount_of_some amount (Some w) a e = (w, refl, cc)

pub within_of : {K : Type 0} (A : Arithmetic) (amount : K → List ℤ) → ((w : K) → Amount A (amount w)) → (n : ℕ) (B : ℕ → ℕ → Option K) → ((i j : ℕ) (w : K) → B i j ≡ Some w → (i < n) × (j < n)) → Within A n (amounts_of amount B)
within_of A amount fit n B below = record {
  below = λ i j a e. let (w, p, q) = amount_of_some amount (B i j) a e in below i j w p;
  amounts = λ i j a e. let (w, p, q) = amount_of_some amount (B i j) a e in subst (λ (z : List ℤ). Amount A z) q (fit w);
}

-- A distance to itself is zero, and distances keep the triangle.
use Rattle.std.proofs.Common.{◌≡◌, ℕ, false, List, [], ◌∷◌, ◌++◌, ℤ, Some, sym, ap, ◌∙◌, inl, inr}
use Rattle.kinds.specs.Arithmetic.{Arithmetic, Amount, AtMost, Lawful}
use Rattle.walks.specs.Bounds.{Bounds, InForce, Within}
use Rattle.walks.specs.Least.{distance, contradictory}
use Rattle.walks.specs.Walks.{Walk}
use Rattle.walks.specs.Walks.Walk.{alone, on}
use Rattle.walks.specs.Claims.{DistancesAreMetric}
use Rattle.walks.proofs.Order.{decide, clash, unit_right}
use Rattle.walks.proofs.Least.{sound, walk_amount, best_fit}
use Rattle.walks.proofs.Cuts.{loop_in}
use Rattle.walks.proofs.Distances.{reaches, seen, under_zero}

module _ {A : Arithmetic} (L : Lawful A) (n : ℕ) (F : Bounds) (net : Within A n F) where
  pub join : {i k j : ℕ} {us vs : List ℕ} {a b : List ℤ} → Walk A (InForce F) i us k a → Walk A (InForce F) k vs j b → Walk A (InForce F) i (us ++ vs) j (A.plus a b)
  join {b = b} alone v = rw (L.neutral b (walk_amount A L n F net v)) v
  join {b = b} (on {a = a} {t = t} e w q) v =
      on e (join w v) (ap (λ (z : List ℤ). A.plus z b) q ∙ L.assoc a t b (net.amounts _ _ a e) (walk_amount A L n F net w) (walk_amount A L n F net v))

  pub bound_walk : {i j : ℕ} {a : List ℤ} → F i j ≡ Some a → Walk A (InForce F) i (i ∷ []) j a
  bound_walk {i} {j} {a} e = on e alone (sym (unit_right L a (net.amounts i j a e)))

  module _ (calm : contradictory A n F ≡ false) where
    pub fit : (i j : ℕ) (a : List ℤ) → distance A n F i j ≡ Some a → Amount A a
    fit i j a e = best_fit A L n F net n i j a e

    pub self : (i : ℕ) → distance A n F i i ≡ Some A.zero
    self i =
        let (b, x, y) = reaches L n F net calm (alone {i = i}) in
        let (vs, w, o) = sound A n F n i i b x in
        let up : AtMost A A.zero b = elim (decide (A.at_most A.zero b)) [
          | inl h ↦ h
          | inr h ↦ clash (contradictory A n F) (seen L n F net (loop_in L n F net (under_zero L n F net w h)).1) calm
        ] in
        x ∙ ap Some (L.antisymmetric b A.zero (fit i i b x) L.zero_amount y up)

    pub triangle : (i k j : ℕ) (a b : List ℤ) → distance A n F i k ≡ Some a → distance A n F k j ≡ Some b → (c : List ℤ) × (distance A n F i j ≡ Some c) × AtMost A c (A.plus a b)
    triangle i k j a b p q =
        let (us, v, o) = sound A n F n i k a p in
        let (vs, w, u) = sound A n F n k j b q in
        reaches L n F net calm (join v w)

    pub edge : (i k j : ℕ) (a w : List ℤ) → distance A n F i k ≡ Some a → F k j ≡ Some w → (c : List ℤ) × (distance A n F i j ≡ Some c) × AtMost A c (A.plus a w)
    edge i k j a w p q =
        let (us, v, o) = sound A n F n i k a p in
        reaches L n F net calm (join v (bound_walk q))

pub metric : DistancesAreMetric
metric A L n F net calm = record { amounts = fit L n F net calm; self = self L n F net calm; triangle = triangle L n F net calm; edge = edge L n F net calm }

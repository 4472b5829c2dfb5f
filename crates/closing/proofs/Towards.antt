-- The walk behind a least sum.
use Rattle.std.proofs.Common.{◌≡◌, ℕ, ◌<◌, max, ◌≢◌, List, [], ◌∷◌, ℤ, Some, None, Option, sym, refl, ◌∙◌, arith}
use Rattle.kinds.specs.Arithmetic.{Arithmetic, Amount}
use Rattle.elimination.specs.Simple.Row.{stop}
use Rattle.elimination.proofs.Order.{le_eq}
use Rattle.elimination.specs.Held.{Held, nil, plus}
use Rattle.elimination.proofs.Laws.{amounts}
use Rattle.eliminator.specs.Views.{Grid}
use Rattle.closing.specs.Trace.{Onward}
use Rattle.closing.proofs.Traces.{chain, in_parts}
use Rattle.sweeper.specs.Sums.{Leasts, Leads, Led}
use Rattle.closing.specs.Walked.{Toward, Walked}

lower : (n i j m : ℕ) → i < n → j < n → m < max i j → m < n
lower n i j m p q h = omega arith

module _ {K : Type 0} {A : Arithmetic} {amount : K → List ℤ} (n : ℕ) (xs : Grid K) (ds : Leasts K) (i j : ℕ) (hi : i < n) (hj : j < n) where
  unled : Led A amount n xs ds → i ≢ j → ((m : ℕ) → Leads n ds i j m → ⊥) → (ds i j).sum ≡ (xs i j).worked
  unled t d none = go (ds i j).by refl
    where
      go : (o : Option ℕ) → (ds i j).by ≡ o → (ds i j).sum ≡ (xs i j).worked
      go None e = t.plain i j hi hj d e
      go (Some m) e = absurd (none m (t.leads i j m hi hj d e))

  pub toward_one : (vs ws : List ℕ) → ((m : ℕ) → Leads n ds i j m → ⊥) → Onward A amount n xs i j vs ws → Toward A amount n xs ds i j vs ws
  toward_one vs ws none f L h a s c t led calm d w r = f L 0 h a s c t calm d (omega arith) (w.0, w.1, (w.2.0, sym (unled led d none) ∙ w.2.1, w.2.2)) r

  module _ (proper : (x : K) → Amount A (amount x)) (m : ℕ) (us vs ws : List ℕ) (z : Leads n ds i j m) where
    pub toward_ahead : i < j → Toward A amount n xs ds i m us vs → Onward A amount n xs m j vs ws → Toward A amount n xs ds i j us ws
    toward_ahead lt f g L h a s c t led calm d w r =
        let hm = lower n i j m hi hj z.low in
        let p = led.ahead i j m lt hj z.by_is in
        let b : Held A = (amount p.front, proper p.front) in
        let e : Held A = (amount p.back, proper p.back) in
        let (x, rx, lx) = f L h a s b t led calm (λ q. z.off_i (sym q)) (hi, hm, (p.front, p.front_is, refl)) r in
        let (y, ry, ly) = g L 0 h a x e t calm z.off_j (omega arith) (hm, hj, (p.back, p.back_is, refl)) rx in
        (y, ry, chain (amounts L) s b e c x y lx ly (in_parts L amount b e c w.2 p.sum_is p.adds))

    pub toward_back : j < i → Onward A amount n xs i m us vs → Toward A amount n xs ds m j vs ws → Toward A amount n xs ds i j us ws
    toward_back lt f g L h a s c t led calm d w r =
        let hm = lower n i j m hi hj z.low in
        let p = led.back i j m lt hi z.by_is in
        let b : Held A = (amount p.front, proper p.front) in
        let e : Held A = (amount p.back, proper p.back) in
        let (x, rx, lx) = f L 0 h a s b t calm (λ q. z.off_i (sym q)) (omega arith) (hi, hm, (p.front, p.front_is, refl)) r in
        let (y, ry, ly) = g L h a x e t led calm z.off_j (hm, hj, (p.back, p.back_is, refl)) rx in
        (y, ry, chain (amounts L) s b e c x y lx ly (in_parts L amount b e c w.2 p.sum_is p.adds))

  pub walked : (us vs : List ℕ) → us ≡ i ∷ [] → Toward A amount n xs ds i j us vs → Walked A amount n xs ds i j vs
  walked us vs e f L h c t led calm d w =
      let (u, r, l) = f L h i (nil L) c t led calm d w (rw e stop) in
      (u, r, (amounts L).trans u (plus L (nil L) c) c l (le_eq (amounts L) (plus L (nil L) c) c ((amounts L).unit c)))

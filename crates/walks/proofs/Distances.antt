-- A contradiction is a loop under zero; without one, the computed distance is the least sum.
use Rattle.std.proofs.Common.{◌≡◌, ℕ, zero, suc, ◌<◌, Bool, true, false, not, ◌⊎◌, ◌↔◌, List, ◌∷◌, ℤ, Some, None, Option, sym, refl, ap, subst, inl, inr, le_of_suc-le-suc, eq-or-lt_of_le, arith}
use Rattle.kinds.specs.Arithmetic.{Arithmetic, AtMost, Lawful}
use Rattle.kinds.specs.Answers.{pick}
use Rattle.walks.specs.Bounds.{Bounds, InForce, Within}
use Rattle.walks.specs.Least.{some_below, best, distance, negative, contradictory}
use Rattle.walks.specs.Walks.{Walk, UnderZero, Loop, Told}
use Rattle.walks.specs.Walks.Walk.{alone, on}
use Rattle.walks.specs.Claims.{ContradictionIsLoop, DistanceIsLeast}
use Rattle.walks.proofs.Order.{decide, clash}
use Rattle.walks.proofs.Names.{pigeons}
use Rattle.walks.proofs.Least.{sound, complete, walk_amount, best_fit}
use Rattle.walks.proofs.Cuts.{Short, reduce, loop_in, names_within}

pick_or : (a b : Bool) → pick a true b ≡ true → (a ≡ true) ⊎ (b ≡ true)
pick_or true b e = inl refl
pick_or false b e = inr e

or_left : (a b : Bool) → a ≡ true → pick a true b ≡ true
or_left a b e = rw e refl

or_right : (a b : Bool) → b ≡ true → pick a true b ≡ true
or_right true b e = refl
or_right false b e = e

pub some_from : (n : ℕ) (f : ℕ → Bool) → some_below n f ≡ true → (i : ℕ) × (i < n) × (f i ≡ true)
some_from zero f e = clash false e refl
some_from (suc n) f e = elim (pick_or (some_below n f) (f n) e) [
  | inl l ↦ let (i, h, q) = some_from n f l in (i, omega arith, q)
  | inr q ↦ (n, omega arith, q)
]

pub some_at : (n : ℕ) (f : ℕ → Bool) (i : ℕ) → i < n → f i ≡ true → some_below n f ≡ true
some_at zero f i h e = absurd (omega arith)
some_at (suc n) f i h e = elim (eq-or-lt_of_le (le_of_suc-le-suc h)) [
  | inr l ↦ or_left (some_below n f) (f n) (some_at n f i l e)
  | inl q ↦ or_right (some_below n f) (f n) (subst (λ (z : ℕ). f z ≡ true) q e)
]

not-true : (b : Bool) → not b ≡ true → b ≡ false
not-true true e = sym e
not-true false e = refl

not-false : (b : Bool) → b ≡ false → not b ≡ true
not-false true e = sym e
not-false false e = refl

negative_from : (A : Arithmetic) (x : Option (List ℤ)) → negative A x ≡ true → (a : List ℤ) × (x ≡ Some a) × (A.at_most A.zero a ≡ false)
negative_from A None e = clash false e refl
negative_from A (Some a) e = (a, refl, not-true (A.at_most A.zero a) e)

module _ {A : Arithmetic} (L : Lawful A) (n : ℕ) (F : Bounds) (net : Within A n F) where
  -- not at most zero, so it has a bound
  starts : {i j : ℕ} {vs : List ℕ} {s : List ℤ} → Walk A (InForce F) i vs j s → A.at_most A.zero s ≡ false → (i < n) × ((rest : List ℕ) × (vs ≡ i ∷ rest))
  starts alone h = clash _ (L.reflexive _ L.zero_amount) h
  starts (on {vs = vs} e w q) h = ((net.below _ _ _ e).0, (vs, refl))

  pub under_zero : {i : ℕ} {vs : List ℕ} {s : List ℤ} → Walk A (InForce F) i vs i s → A.at_most A.zero s ≡ false → UnderZero A (InForce F) vs
  under_zero {i} {s = s} w h = let (p, (rest, e)) = starts w h in record { at = i; rest = rest; shown = e; sum = s; walk = w; negative = h }

  found : contradictory A n F ≡ true → (events : List ℕ) × UnderZero A (InForce F) events
  found e =
      let (i, h, q) = some_from n (λ i. negative A (best A n F n i i)) e in
      let (a, x, y) = negative_from A (best A n F n i i) q in
      let (vs, w, o) = sound A n F n i i a x in
      (vs, under_zero w y)

  pub seen : {events : List ℕ} → Loop A (InForce F) events → contradictory A n F ≡ true
  seen {events} l =
      let (b, x, y) = complete A L n F net n l.walk (pigeons n events l.once (names_within L n F net l.walk)) in
      let pb = best_fit A L n F net n l.at l.at b x in
      let below : A.at_most A.zero b ≡ false = elim (decide (A.at_most A.zero b)) [
        | inl h ↦ clash (A.at_most A.zero l.sum) (L.transitive _ _ _ L.zero_amount pb (walk_amount A L n F net l.walk) h y) l.negative
        | inr h ↦ h
      ] in
      some_at n (λ i. negative A (best A n F n i i)) l.at (starts l.walk l.negative).0 (subst (λ z. negative A z ≡ true) (sym x) (not-false _ below))

  exactly : ((contradictory A n F ≡ true) ↔ ((events : List ℕ) × UnderZero A (InForce F) events)) × ((contradictory A n F ≡ true) ↔ ((events : List ℕ) × Loop A (InForce F) events))
  exactly = ((found, λ w. seen (loop_in L n F net w.1).1), (λ e. loop_in L n F net (found e).1, λ l. seen l.1))

  module _ (calm : contradictory A n F ≡ false) where
    pub short : {i j : ℕ} {vs : List ℕ} {s : List ℤ} → Walk A (InForce F) i vs j s → Short L n F net i j s
    short w = elim (reduce L n F net w) [ inl c ↦ c | inr l ↦ clash (contradictory A n F) (seen l.1) calm ]

    pub reaches : {i j : ℕ} {vs : List ℕ} {s : List ℤ} → Walk A (InForce F) i vs j s → (b : List ℤ) × (distance A n F i j ≡ Some b) × AtMost A b s
    reaches w =
        let c = short w in
        let (b, x, y) = complete A L n F net n c.walk (pigeons n c.names c.once (names_within L n F net c.walk)) in
        (b, x, L.transitive _ _ _ (best_fit A L n F net n _ _ b x) (walk_amount A L n F net c.walk) (walk_amount A L n F net w) y c.less)

    none : (i j : ℕ) → distance A n F i j ≡ None → (vs : List ℕ) (s : List ℤ) → ¬ (Walk A (InForce F) i vs j s)
    none i j e vs s w =
        let (b, x, y) = reaches w in
        let z : ◌≡◌ {A = ℕ} 0 1 = cc (e, x) in
        omega arith

    pub least_one : (i j : ℕ) (d : List ℤ) → distance A n F i j ≡ Some d → ((vs : List ℕ) × Walk A (InForce F) i vs j d) × ((vs : List ℕ) (s : List ℤ) → Walk A (InForce F) i vs j s → AtMost A d s)
    least_one i j d e =
        let (vs, w, o) = sound A n F n i j d e in
        ((vs, w), λ us s v. let (b, x, y) = reaches v in let same : b ≡ d = cc (e, x) in subst (λ (z : List ℤ). AtMost A z s) same y)

    told_at : (i j : ℕ) (d : Option (List ℤ)) → distance A n F i j ≡ d → Told A (InForce F) i j d
    told_at i j None e = none i j e
    told_at i j (Some d) e = least_one i j d e

    pinned : (i j : ℕ) (d : Option (List ℤ)) → Told A (InForce F) i j d → (x : Option (List ℤ)) → distance A n F i j ≡ x → d ≡ x
    pinned i j None t None e = refl
    pinned i j None t (Some b) e = absurd (t _ _ (least_one i j b e).0.1)
    pinned i j (Some d) t None e = absurd (none i j e _ _ t.0.1)
    pinned i j (Some d) t (Some b) e =
        let o = least_one i j b e in
        ap Some (L.antisymmetric d b (walk_amount A L n F net t.0.1) (walk_amount A L n F net o.0.1) (t.1 _ _ o.0.1) (o.1 _ _ t.0.1))

pub contradiction : ContradictionIsLoop
contradiction A L n F net = exactly L n F net

pub told : DistanceIsLeast
told A L n F net calm i j d = (λ t. pinned L n F net calm i j d t (distance A n F i j) refl, λ e. told_at L n F net calm i j d (sym e))

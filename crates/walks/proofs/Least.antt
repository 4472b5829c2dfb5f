-- What the computed least sum is: the sum of a walk of at most m bounds, and at most that of each.
use Rattle.std.proofs.Common.{◌≡◌, ℕ, zero, suc, ◌<◌, ◌≤◌, Bool, true, false, T, eqb, ◌⊎◌, List, [], ◌∷◌, length, ℤ, Some, None, Option, refl, subst, inl, inr, le_of_suc-le-suc, eq-or-lt_of_le, arith, eqb→eq}
use lib.Dec.{eqb_refl}
use Rattle.kinds.specs.Arithmetic.{Arithmetic, Amount, AtMost, Lawful}
use Rattle.kinds.specs.Answers.{pick}
use Rattle.walks.specs.Bounds.{Bounds, InForce, Within}
use Rattle.walks.specs.Least.{added, lesser, least, stay, best}
use Rattle.walks.specs.Walks.{Walk}
use Rattle.walks.specs.Walks.Walk.{alone, on}
use Rattle.walks.proofs.Order.{clash, other}

some_none : {X : Type 0} (a : List ℤ) → ◌≡◌ {A = Option (List ℤ)} None (Some a) → X
some_none a e = let z : ◌≡◌ {A = ℕ} 0 1 = cc in absurd (omega arith)

T_true : (b : Bool) → T b → b ≡ true
T_true true t = refl
T_true false t = absurd t

T_of : (b : Bool) → b ≡ true → T b
T_of true e = tt
T_of false e = clash false e refl

pub eqb-true : (i j : ℕ) → eqb i j ≡ true → i ≡ j
eqb-true i j e = eqb→eq i j (T_of (eqb i j) e)

pick_from : {X : Type 0} (t : Bool) (x y z : X) → pick t x y ≡ z → (x ≡ z) ⊎ (y ≡ z)
pick_from true x y z e = inl e
pick_from false x y z e = inr e

module _ (A : Arithmetic) where
  pub lesser_from : (x y : Option (List ℤ)) (a : List ℤ) → lesser A x y ≡ Some a → (x ≡ Some a) ⊎ (y ≡ Some a)
  lesser_from None y a e = inr e
  lesser_from (Some b) None a e = inl e
  lesser_from (Some b) (Some c) a e = pick_from _ (Some b) (Some c) (Some a) e

  pub added_from : (x y : Option (List ℤ)) (a : List ℤ) → added A x y ≡ Some a → (b : List ℤ) × (c : List ℤ) × (x ≡ Some b) × (y ≡ Some c) × (a ≡ A.plus b c)
  added_from None y a e = some_none a e
  added_from (Some b) None a e = some_none a e
  added_from (Some b) (Some c) a e = (b, c, refl, refl, cc)

  pub added_both : (x y : Option (List ℤ)) (b c : List ℤ) → x ≡ Some b → y ≡ Some c → added A x y ≡ Some (A.plus b c)
  added_both x y b c p q = rw (p, q) refl

  pub least_from : (n : ℕ) (f : ℕ → Option (List ℤ)) (a : List ℤ) → least A n f ≡ Some a → (j : ℕ) × (j < n) × (f j ≡ Some a)
  least_from zero f a e = some_none a e
  least_from (suc n) f a e = elim (lesser_from (least A n f) (f n) a e) [
    | inl l ↦ let (j, h, q) = least_from n f a l in (j, omega arith, q)
    | inr q ↦ (n, omega arith, q)
  ]

  stay_from : (i j : ℕ) (a : List ℤ) (t : Bool) → eqb i j ≡ t → pick t (Some A.zero) None ≡ Some a → (i ≡ j) × (a ≡ A.zero)
  stay_from i j a true p e = (eqb-true i j p, cc)
  stay_from i j a false p e = some_none a e

  stay_self : (i : ℕ) → stay A i i ≡ Some A.zero
  stay_self i = rw (T_true (eqb i i) (eqb_refl i)) refl

  -- a walk of no bound, or of one and then more
  alone_at : {E : ℕ → ℕ → List ℤ → Type 0} (i j : ℕ) (a : List ℤ) → i ≡ j → a ≡ A.zero → Walk A E i [] j a
  alone_at i j a p q = rw (p, q) alone

  pub sound : (n : ℕ) (F : Bounds) (m i j : ℕ) (a : List ℤ) → best A n F m i j ≡ Some a → (vs : List ℕ) × Walk A (InForce F) i vs j a × (length vs ≤ m)
  sound n F zero i j a e = let (p, q) = stay_from i j a (eqb i j) refl e in ([], alone_at i j a p q, omega arith)
  sound n F (suc m) i j a e = elim (lesser_from (stay A i j) (least A n (λ k. added A (F i k) (best A n F m k j))) a e) [
    | inl s ↦ let (p, q) = stay_from i j a (eqb i j) refl s in ([], alone_at i j a p q, omega arith)
    | inr l ↦
        let (k, h, q) = least_from n (λ k. added A (F i k) (best A n F m k j)) a l in
        let (b, c, x, y, z) = added_from (F i k) (best A n F m k j) a q in
        let (vs, w, o) = sound n F m k j c y in
        (i ∷ vs, on x w z, omega arith)
  ]

  module _ (L : Lawful A) where
    -- an amount, where it is not none
    abbrev pub Fit : Option (List ℤ) → Type 0
    Fit x = (a : List ℤ) → x ≡ Some a → Amount A a

    pub lesser_both : (x y : Option (List ℤ)) (a : List ℤ) → Fit x → Fit y → (x ≡ Some a) ⊎ (y ≡ Some a) → (b : List ℤ) × (lesser A x y ≡ Some b) × AtMost A b a
    lesser_both None y a f g (inl e) = some_none a e
    lesser_both None y a f g (inr e) = (a, e, L.reflexive a (g a e))
    lesser_both (Some b) None a f g (inl e) = (a, e, L.reflexive a (f a e))
    lesser_both (Some b) None a f g (inr e) = some_none a e
    lesser_both (Some b) (Some c) a f g h = go (A.at_most b c) (λ e. e) (λ e. other L b c (f b refl) (g c refl) e) h
      where
        go : (t : Bool) → (t ≡ true → AtMost A b c) → (t ≡ false → AtMost A c b) → (Some b ≡ Some a) ⊎ (Some c ≡ Some a) → (z : List ℤ) × (pick t (Some b) (Some c) ≡ Some z) × AtMost A z a
        go true u v (inl e) = let q : b ≡ a = cc in (b, refl, rw (← q) (L.reflexive b (f b refl)))
        go true u v (inr e) = let q : c ≡ a = cc in (b, refl, rw (← q) (u refl))
        go false u v (inl e) = let q : b ≡ a = cc in (c, refl, rw (← q) (v refl))
        go false u v (inr e) = let q : c ≡ a = cc in (c, refl, rw (← q) (L.reflexive c (g c refl)))

    pub lesser_fit : (x y : Option (List ℤ)) → Fit x → Fit y → Fit (lesser A x y)
    lesser_fit x y f g a e = elim (lesser_from x y a e) [ inl p ↦ f a p | inr p ↦ g a p ]

    pub least_fit : (n : ℕ) (f : ℕ → Option (List ℤ)) → ((k : ℕ) → Fit (f k)) → Fit (least A n f)
    least_fit n f g a e = let (j, h, q) = least_from n f a e in g j a q

    pub least_tries : (n : ℕ) (f : ℕ → Option (List ℤ)) → ((k : ℕ) → Fit (f k)) → (j : ℕ) (a : List ℤ) → j < n → f j ≡ Some a → (b : List ℤ) × (least A n f ≡ Some b) × AtMost A b a
    least_tries zero f g j a h e = absurd (omega arith)
    least_tries (suc n) f g j a h e = elim (eq-or-lt_of_le (le_of_suc-le-suc h)) [
      | inr l ↦
          let (b, q, m) = least_tries n f g j a l e in
          let (c, r, o) = lesser_both (least A n f) (f n) b (least_fit n f g) (g n) (inl q) in
          (c, r, L.transitive c b a (lesser_fit (least A n f) (f n) (least_fit n f g) (g n) c r) (least_fit n f g b q) (g j a e) o m)
      | inl q ↦ lesser_both (least A n f) (f n) a (least_fit n f g) (g n) (inr (subst (λ (z : ℕ). f z ≡ Some a) q e))
    ]

    module _ (n : ℕ) (F : Bounds) (net : Within A n F) where
      pub walk_amount : {i j : ℕ} {vs : List ℕ} {s : List ℤ} → Walk A (InForce F) i vs j s → Amount A s
      walk_amount alone = L.zero_amount
      walk_amount (on {a = a} {t = t} e w q) = rw q (L.plus_amount a t (net.amounts _ _ a e) (walk_amount w))

      stay_fit : (i j : ℕ) → Fit (stay A i j)
      stay_fit i j a e = let (p, q) = stay_from i j a (eqb i j) refl e in rw q L.zero_amount

      pub best_fit : (m i j : ℕ) → Fit (best A n F m i j)
      best_fit m i j a e = let (vs, w, o) = sound n F m i j a e in walk_amount w

      step_fit : (m i j k : ℕ) → Fit (added A (F i k) (best A n F m k j))
      step_fit m i j k a e =
          let (b, c, x, y, z) = added_from (F i k) (best A n F m k j) a e in
          rw z (L.plus_amount b c (net.amounts i k b x) (best_fit m k j c y))

      pub complete : (m : ℕ) {i j : ℕ} {vs : List ℕ} {s : List ℤ} → Walk A (InForce F) i vs j s → length vs ≤ m → (b : List ℤ) × (best A n F m i j ≡ Some b) × AtMost A b s
      complete zero (alone {i = i}) h = (A.zero, stay_self i, L.reflexive A.zero L.zero_amount)
      complete zero (on e w q) h = absurd (omega arith)
      complete (suc m) (alone {i = i}) h =
          lesser_both (stay A i i) (least A n (λ k. added A (F i k) (best A n F m k i))) A.zero (stay_fit i i) (least_fit n _ (step_fit m i i)) (inl (stay_self i))
      complete (suc m) (on {i = i} {k = k} {j = j} {a = a} {s = s} {t = t} e w q) h =
          let (b, x, l) = complete m w (le_of_suc-le-suc h) in
          let f : ℕ → Option (List ℤ) = λ k. added A (F i k) (best A n F m k j) in
          let (c, y, o) = least_tries n f (step_fit m i j) k (A.plus a b) (net.below i k a e).1 (added_both (F i k) (best A n F m k j) a b e x) in
          let (d, z, u) = lesser_both (stay A i j) (least A n f) c (stay_fit i j) (least_fit n f (step_fit m i j)) (inr y) in
          let pa = net.amounts i k a e in
          let pb = best_fit m k j b x in
          let pt = walk_amount w in
          let pab = L.plus_amount a b pa pb in
          let pat = L.plus_amount a t pa pt in
          let pc = least_fit n f (step_fit m i j) c y in
          let pd = lesser_fit (stay A i j) (least A n f) (stay_fit i j) (least_fit n f (step_fit m i j)) d z in
          (d, z, rw q (L.transitive d (A.plus a b) (A.plus a t) pd pab pat (L.transitive d c (A.plus a b) pd pc pab u o) (right a b t pa pb pt l)))
        where
          right : (a b t : List ℤ) → Amount A a → Amount A b → Amount A t → AtMost A b t → AtMost A (A.plus a b) (A.plus a t)
          right a b t p q r h = rw (L.comm a b p q, L.comm a t p r) (L.keeps b t a q r p h)

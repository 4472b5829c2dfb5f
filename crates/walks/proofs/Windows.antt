-- The computed window is the window.
use Rattle.std.proofs.Common.{◌≡◌, ℕ, false, List, ℤ, Some, None, Option, sym, refl, ap, ◌∙◌, subst, inl, inr, arith}
use Rattle.kinds.specs.Arithmetic.{Arithmetic, Amount, AtMost, Lawful, Inverse}
use Rattle.walks.specs.Bounds.{Bounds, InForce, Within}
use Rattle.walks.specs.Least.{added, lesser, distance, contradictory, opposite, window}
use Rattle.walks.specs.Walks.{Schedule, From, To, Window}
use Rattle.walks.specs.Claims.{WindowsAreExact}
use Rattle.walks.proofs.Order.{unit_right, greater, cancel, cancel_unit, flip, flip_back}
use Rattle.walks.proofs.Least.{lesser_from, lesser_both, sound}
use Rattle.walks.proofs.Metric.{fit, self}
use Rattle.walks.proofs.Schedules.{value, value_some, Potential, schedule, both, shifted_from, shifted, timed, walk_kept, from_one, scheduled}

module _ {A : Arithmetic} (L : Lawful A) {minus : List ℤ → List ℤ} (V : Inverse A minus) (n : ℕ) (F : Bounds) (net : Within A n F) (calm : contradictory A n F ≡ false) where
  -- what a window's ends ask of an amount, without the opposite
  record Inside (i j : ℕ) (x : List ℤ) : Type 0 where
    low : (d : List ℤ) → distance A n F j i ≡ Some d → AtMost A A.zero (A.plus x d)
    high : (d : List ℤ) → distance A n F i j ≡ Some d → AtMost A x d

  low_from : (x : List ℤ) → Amount A x → (o : Option (List ℤ)) → ((d : List ℤ) → o ≡ Some d → Amount A d) → From A (opposite minus o) x → (d : List ℤ) → o ≡ Some d → AtMost A A.zero (A.plus x d)
  low_from x p None f h d e = let z : ◌≡◌ {A = ℕ} 0 1 = cc in absurd (omega arith)
  low_from x p (Some b) f h d e = let q : b ≡ d = cc in subst (λ (z : List ℤ). AtMost A A.zero (A.plus x z)) q (flip L V b x (f b refl) p h)

  low_to : (x : List ℤ) → Amount A x → (o : Option (List ℤ)) → ((d : List ℤ) → o ≡ Some d → Amount A d) → ((d : List ℤ) → o ≡ Some d → AtMost A A.zero (A.plus x d)) → From A (opposite minus o) x
  low_to x p None f h = tt
  low_to x p (Some b) f h = flip_back L V b x (f b refl) p (h b refl)

  high_from : (x : List ℤ) (o : Option (List ℤ)) → To A o x → (d : List ℤ) → o ≡ Some d → AtMost A x d
  high_from x None h d e = let z : ◌≡◌ {A = ℕ} 0 1 = cc in absurd (omega arith)
  high_from x (Some b) h d e = let q : b ≡ d = cc in subst (λ (z : List ℤ). AtMost A x z) q h

  high_to : (x : List ℤ) (o : Option (List ℤ)) → ((d : List ℤ) → o ≡ Some d → AtMost A x d) → To A o x
  high_to x None h = tt
  high_to x (Some b) h = h b refl

  -- a schedule that sets j at x after i shows that x is inside
  inside : (i j : ℕ) (x : List ℤ) → Amount A x → (s : Schedule A (InForce F)) → s.time j ≡ A.plus (s.time i) x → Inside i j x
  inside i j x p s q = record {
    low = λ d e.
        let (vs, w, o) = sound A n F n j i d e in
        let pd = fit L n F net calm j i d e in
        let pi = s.amounts i in
        let same : A.plus (s.time j) d ≡ A.plus (s.time i) (A.plus x d) = ap (λ (z : List ℤ). A.plus z d) q ∙ L.assoc (s.time i) x d pi p pd in
        cancel_unit L V (s.time i) (A.plus x d) pi (L.plus_amount x d p pd) (subst (λ (z : List ℤ). AtMost A (s.time i) z) same (walk_kept L n F net s w));
    high = λ d e.
        let (vs, w, o) = sound A n F n i j d e in
        cancel L V (s.time i) x d (s.amounts i) p (fit L n F net calm i j d e) (subst (λ (z : List ℤ). AtMost A z (A.plus (s.time i) d)) q (walk_kept L n F net s w));
  }

  module _ (i j : ℕ) (x : List ℤ) (px : Amount A x) (h : Inside i j x) (s : Schedule A (InForce F)) (c : List ℤ) (pc : Amount A c) (ci : AtMost A A.zero (A.plus c (s.time i))) (cj : AtMost A x (A.plus c (s.time j))) where
    abbrev late : ℕ → Option (List ℤ)
    late k = added A (Some x) (distance A n F j k)

    abbrev any : ℕ → Option (List ℤ)
    any k = added A (Some c) (Some (s.time k))

    abbrev other : ℕ → Option (List ℤ)
    other k = lesser A (late k) (any k)

    -- the least of: distance from i, x and distance from j, and the schedule moved by c
    abbrev point : ℕ → Option (List ℤ)
    point k = lesser A (distance A n F i k) (other k)

    one : Potential L n F net (distance A n F i)
    one = from_one L n F net calm i

    two : Potential L n F net late
    two = shifted L n F net x px (distance A n F j) (from_one L n F net calm j)

    three : Potential L n F net any
    three = shifted L n F net c pc (λ k. Some (s.time k)) (timed L n F net s)

    rest : Potential L n F net other
    rest = both L n F net late any two three

    kept : Potential L n F net point
    kept = both L n F net (distance A n F i) other one rest

    full : (k : ℕ) → (a : List ℤ) × (point k ≡ Some a)
    full k =
        let (a, e, m) = lesser_both A L (late k) (any k) (A.plus c (s.time k)) (two.fits k) (three.fits k) (inr refl) in
        let (b, f, o) = lesser_both A L (distance A n F i k) (other k) a (one.fits k) (rest.fits k) (inr e) in
        (b, f)

    -- at least what each of the three is at least
    of_three : (k : ℕ) (a : List ℤ) → point k ≡ Some a → (y : List ℤ) → ((d : List ℤ) → distance A n F i k ≡ Some d → AtMost A y d) → ((d : List ℤ) → distance A n F j k ≡ Some d → AtMost A y (A.plus x d)) → AtMost A y (A.plus c (s.time k)) → AtMost A y a
    of_three k a e y u v w = elim (lesser_from A (distance A n F i k) (other k) a e) [
      | inl f ↦ u a f
      | inr f ↦ elim (lesser_from A (late k) (any k) a f) [
        | inl g ↦ let (d, t, r) = shifted_from L n F net x (distance A n F j k) a g in rw r (v d t)
        | inr g ↦ let r : A.plus c (s.time k) ≡ a = cc in subst (λ (z : List ℤ). AtMost A y z) r w
      ]
    ]

    at_i : (a : List ℤ) → point i ≡ Some a → a ≡ A.zero
    at_i a e =
        let (b, f, m) = lesser_both A L (distance A n F i i) (other i) A.zero (one.fits i) (rest.fits i) (inl (self L n F net calm i)) in
        let q : b ≡ a = cc (e, f) in
        let up : AtMost A A.zero a = of_three i a e A.zero (λ d t. let z : A.zero ≡ d = cc (t, self L n F net calm i) in subst (λ (y : List ℤ). AtMost A A.zero y) z (L.reflexive A.zero L.zero_amount)) h.low ci in
        L.antisymmetric a A.zero (kept.fits i a e) L.zero_amount (subst (λ (y : List ℤ). AtMost A y A.zero) q m) up

    at_j : (b : List ℤ) → point j ≡ Some b → b ≡ x
    at_j b e =
        let same : A.plus x A.zero ≡ x = unit_right L x px in
        let here : late j ≡ Some x = ap (added A (Some x)) (self L n F net calm j) ∙ ap Some same in
        let (a, f, m) = lesser_both A L (late j) (any j) x (two.fits j) (three.fits j) (inl here) in
        let (d, g, o) = lesser_both A L (distance A n F i j) (other j) a (one.fits j) (rest.fits j) (inr f) in
        let q : d ≡ b = cc (e, g) in
        let pb = kept.fits j b e in
        let up : AtMost A x b = of_three j b e x h.high (λ d t. let z : A.zero ≡ d = cc (t, self L n F net calm j) in subst (λ (y : List ℤ). AtMost A x (A.plus x y)) z (subst (λ (y : List ℤ). AtMost A x y) (sym same) (L.reflexive x px))) cj in
        L.antisymmetric b x pb px (L.transitive b a x pb (rest.fits j a f) px (subst (λ (y : List ℤ). AtMost A y a) q o) m) up

    set_at : (t : Schedule A (InForce F)) × (t.time j ≡ A.plus (t.time i) x)
    unfolding schedule
    set_at =
        let (a, e) = full i in
        let (b, f) = full j in
        let ti : value A (point i) ≡ A.zero = value_some A (point i) a e ∙ at_i a e in
        let tj : value A (point j) ≡ x = value_some A (point j) b f ∙ at_j b f in
        (schedule L n F net point kept (λ k l. full k), tj ∙ sym (L.neutral x px) ∙ ap (λ (z : List ℤ). A.plus z x) (sym ti))

  placed : (i j : ℕ) (x : List ℤ) → Amount A x → Inside i j x → (t : Schedule A (InForce F)) × (t.time j ≡ A.plus (t.time i) x)
  placed i j x px h =
      let s = (scheduled L n F net calm).schedule in
      let pi = s.amounts i in
      let pj = s.amounts j in
      let mi = V.minus_amount (s.time i) pi in
      let mj = V.minus_amount (s.time j) pj in
      let (c, pc, u, v) = greater L (minus (s.time i)) (A.plus x (minus (s.time j))) mi (L.plus_amount x (minus (s.time j)) px mj) in
      let same : A.plus (A.plus x (minus (s.time j))) (s.time j) ≡ x = L.assoc x (minus (s.time j)) (s.time j) px mj pj ∙ ap (A.plus x) (L.comm (minus (s.time j)) (s.time j) mj pj ∙ V.undoes (s.time j) pj) ∙ unit_right L x px in
      set_at i j x px h s c pc (flip L V (s.time i) c pi pc u) (rw same at (L.keeps (A.plus x (minus (s.time j))) c (s.time j) (L.plus_amount x (minus (s.time j)) px mj) pc pj v))

  pub exact : (i j : ℕ) → Window A (InForce F) i j (window A minus n F i j)
  exact i j x px = (
    λ h. placed i j x px (record { low = low_from x px (distance A n F j i) (fit L n F net calm j i) h.0; high = high_from x (distance A n F i j) h.1 }),
    λ t. let h = inside i j x px t.0 t.1 in (low_to x px (distance A n F j i) (fit L n F net calm j i) h.low, high_to x (distance A n F i j) h.high),
  )

pub windows : WindowsAreExact
windows A L minus V n F net calm i j = exact L V n F net calm i j

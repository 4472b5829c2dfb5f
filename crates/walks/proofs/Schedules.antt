-- Times that no bound passes, and schedules made of them.
use Rattle.std.proofs.Common.{◌≡◌, ℕ, ◌<◌, true, false, List, ℤ, Some, None, Option, sym, refl, ap, ◌∙◌, subst, inl, inr}
use Rattle.kinds.specs.Arithmetic.{Arithmetic, Amount, AtMost, Lawful, Inverse}
use Rattle.walks.specs.Bounds.{Bounds, InForce, Within}
use Rattle.walks.specs.Least.{added, lesser, distance, contradictory, time}
use Rattle.walks.specs.Walks.{Walk, UnderZero, Schedule}
use Rattle.walks.specs.Walks.Walk.{alone, on}
use Rattle.walks.specs.Claims.{ContradictionIsNoSchedule, Scheduled, TimesAreSchedule}
use Rattle.walks.proofs.Order.{decide, clash, unit_right, mono_right, cancel_unit}
use Rattle.walks.proofs.Least.{added_from, lesser_from, lesser_both, lesser_fit, least_from, least_fit, least_tries, walk_amount}
use Rattle.walks.proofs.Distances.{contradiction}
use Rattle.walks.proofs.Metric.{fit, self, edge}

module _ (A : Arithmetic) where
  abbrev pub value : Option (List ℤ) → List ℤ
  value None = A.zero
  value (Some a) = a

pub value_fit : {A : Arithmetic} → Lawful A → (o : Option (List ℤ)) → ((a : List ℤ) → o ≡ Some a → Amount A a) → Amount A (value A o)
value_fit L None f = L.zero_amount
value_fit L (Some a) f = f a refl

pub value_some : (A : Arithmetic) (o : Option (List ℤ)) (a : List ℤ) → o ≡ Some a → value A o ≡ a
value_some A o a e = rw e refl

module _ {A : Arithmetic} (L : Lawful A) (n : ℕ) (F : Bounds) (net : Within A n F) where
  -- times, where there are any, that no bound passes
  pub record Potential (P : ℕ → Option (List ℤ)) : Type 0 where
    pub fits : (k : ℕ) (a : List ℤ) → P k ≡ Some a → Amount A a
    pub step : (k l : ℕ) (a w : List ℤ) → P k ≡ Some a → F k l ≡ Some w → (b : List ℤ) × (P l ≡ Some b) × AtMost A b (A.plus a w)

  unfoldable pub schedule : (P : ℕ → Option (List ℤ)) → Potential P → ((k : ℕ) → k < n → (a : List ℤ) × (P k ≡ Some a)) → Schedule A (InForce F)
  schedule P p full = record {
    time = λ k. value A (P k);
    amounts = λ k. value_fit L (P k) (p.fits k);
    keeps = λ k l w x.
        let (a, e) = full k (net.below k l w x).0 in
        let (b, f, m) = p.step k l a w e x in
        subst (λ (z : List ℤ). AtMost A z (A.plus (value A (P k)) w)) (sym (value_some A (P l) b f)) (subst (λ (z : List ℤ). AtMost A b (A.plus z w)) (sym (value_some A (P k) a e)) m);
  }

  -- the lesser of two
  pub both : (P Q : ℕ → Option (List ℤ)) → Potential P → Potential Q → Potential (λ k. lesser A (P k) (Q k))
  both P Q p q = record {
    fits = λ k. lesser_fit A L (P k) (Q k) (p.fits k) (q.fits k);
    step = λ k l a w e x.
        let pw = net.amounts k l w x in
        let pa : Amount A a = lesser_fit A L (P k) (Q k) (p.fits k) (q.fits k) a e in
        elim (lesser_from A (P k) (Q k) a e) [
          | inl h ↦
              let (b, f, m) = p.step k l a w h x in
              let (c, g, o) = lesser_both A L (P l) (Q l) b (p.fits l) (q.fits l) (inl f) in
              (c, g, L.transitive c b (A.plus a w) (lesser_fit A L (P l) (Q l) (p.fits l) (q.fits l) c g) (p.fits l b f) (L.plus_amount a w pa pw) o m)
          | inr h ↦
              let (b, f, m) = q.step k l a w h x in
              let (c, g, o) = lesser_both A L (P l) (Q l) b (p.fits l) (q.fits l) (inr f) in
              (c, g, L.transitive c b (A.plus a w) (lesser_fit A L (P l) (Q l) (p.fits l) (q.fits l) c g) (q.fits l b f) (L.plus_amount a w pa pw) o m)
        ];
  }

  pub shifted_from : (x : List ℤ) (o : Option (List ℤ)) (a : List ℤ) → added A (Some x) o ≡ Some a → (b : List ℤ) × (o ≡ Some b) × (a ≡ A.plus x b)
  shifted_from x o a e = let (c, b, p, q, r) = added_from A (Some x) o a e in let z : c ≡ x = cc in (b, q, subst (λ (y : List ℤ). a ≡ A.plus y b) z r)

  -- all by one amount later
  pub shifted : (x : List ℤ) → Amount A x → (P : ℕ → Option (List ℤ)) → Potential P → Potential (λ k. added A (Some x) (P k))
  shifted x px P p = record {
    fits = λ k a e. let (b, q, r) = shifted_from x (P k) a e in rw r (L.plus_amount x b px (p.fits k b q));
    step = λ k l a w e h.
        let pw = net.amounts k l w h in
        let (b, f, r) = shifted_from x (P k) a e in
        let (c, g, m) = p.step k l b w f h in
        let pb = p.fits k b f in
        let same : A.plus x (A.plus b w) ≡ A.plus a w = sym (L.assoc x b w px pb pw) ∙ ap (λ (z : List ℤ). A.plus z w) (sym r) in
        (A.plus x c, ap (added A (Some x)) g, subst (λ (z : List ℤ). AtMost A (A.plus x c) z) same (mono_right L c (A.plus b w) x (p.fits l c g) (L.plus_amount b w pb pw) px m));
  }

  pub timed : (s : Schedule A (InForce F)) → Potential (λ k. Some (s.time k))
  timed s = record {
    fits = λ k a e. let q : s.time k ≡ a = cc in subst (λ (z : List ℤ). Amount A z) q (s.amounts k);
    step = λ k l a w e x. let q : s.time k ≡ a = cc in (s.time l, refl, subst (λ (z : List ℤ). AtMost A (s.time l) (A.plus z w)) q (s.keeps k l w x));
  }

  -- a schedule keeps each walk
  pub walk_kept : (s : Schedule A (InForce F)) {i j : ℕ} {vs : List ℕ} {t : List ℤ} → Walk A (InForce F) i vs j t → AtMost A (s.time j) (A.plus (s.time i) t)
  walk_kept s (alone {i = i}) = subst (λ (z : List ℤ). AtMost A (s.time i) z) (sym (unit_right L (s.time i) (s.amounts i))) (L.reflexive (s.time i) (s.amounts i))
  walk_kept s {j = j} {t = t} (on {i = i} {k = k} {a = a} {t = r} e w q) =
      let pa = net.amounts i k a e in
      let pr = walk_amount A L n F net w in
      let pi = s.amounts i in
      let pk = s.amounts k in
      let pia = L.plus_amount (s.time i) a pi pa in
      let same : A.plus (A.plus (s.time i) a) r ≡ A.plus (s.time i) t = L.assoc (s.time i) a r pi pa pr ∙ ap (A.plus (s.time i)) (sym q) in
      subst (λ (z : List ℤ). AtMost A (s.time j) z) same (L.transitive (s.time j) (A.plus (s.time k) r) (A.plus (A.plus (s.time i) a) r) (s.amounts j) (L.plus_amount (s.time k) r pk pr) (L.plus_amount (A.plus (s.time i) a) r pia pr) (walk_kept s w) (L.keeps (s.time k) (A.plus (s.time i) a) r pk pia pr (s.keeps i k a e)))

  -- no schedule keeps a loop under zero
  pub loop_breaks : {minus : List ℤ → List ℤ} → Inverse A minus → {events : List ℕ} → UnderZero A (InForce F) events → ¬ (Schedule A (InForce F))
  loop_breaks V l s =
      let i = l.at in
      clash (A.at_most A.zero l.sum) (cancel_unit L V (s.time i) l.sum (s.amounts i) (walk_amount A L n F net l.walk) (walk_kept s l.walk)) l.negative

  module _ (calm : contradictory A n F ≡ false) where
    pub from_one : (i : ℕ) → Potential (distance A n F i)
    from_one i = record { fits = fit L n F net calm i; step = λ k l a w e x. edge L n F net calm i k l a w e x }

    from_all : Potential (time A n F)
    from_all = record {
      fits = λ k. least_fit A L n (λ i. distance A n F i k) (λ i. fit L n F net calm i k);
      step = λ k l a w e x.
          let (i, h, p) = least_from A n (λ i. distance A n F i k) a e in
          let (c, y, o) = edge L n F net calm i k l a w p x in
          let (d, z, u) = least_tries A L n (λ i. distance A n F i l) (λ i. fit L n F net calm i l) i c h y in
          let pd = least_fit A L n (λ i. distance A n F i l) (λ i. fit L n F net calm i l) d z in
          (d, z, L.transitive d c (A.plus a w) pd (fit L n F net calm i l c y) (L.plus_amount a w (fit L n F net calm i k a p) (net.amounts k l w x)) u o);
    }

    timed_all : (k : ℕ) → k < n → (a : List ℤ) × (time A n F k ≡ Some a)
    timed_all k h =
        let (t, e, o) = least_tries A L n (λ i. distance A n F i k) (λ i. fit L n F net calm i k) k A.zero h (self L n F net calm k) in
        (t, e)

    pub scheduled : Scheduled A n F
    unfolding schedule
    scheduled = record {
      schedule = schedule (time A n F) from_all timed_all;
      times = λ j h. let (t, e) = timed_all j h in e ∙ ap Some (sym (value_some A (time A n F j) t e));
    }

pub times : TimesAreSchedule
times A L n F net calm = scheduled L n F net calm

pub no_schedule : ContradictionIsNoSchedule
no_schedule A L minus V n F net =
    let loops = (contradiction A L n F net).0 in
    let broken : contradictory A n F ≡ true → ¬ (Schedule A (InForce F)) = λ e. loop_breaks L n F net V (loops.0 e).1 in
    let made : contradictory A n F ≡ false → Schedule A (InForce F) = λ calm. (scheduled L n F net calm).schedule in
    ((made, λ s. elim (decide (contradictory A n F)) [ inl h ↦ absurd (broken h s) | inr h ↦ h ]), (broken, λ f. elim (decide (contradictory A n F)) [ inl h ↦ h | inr h ↦ absurd (f (made h)) ]))

-- What the sweep comes to.
use Rattle.std.proofs.Common.{◌≡◌, ℕ, zero, suc, ◌+◌, ◌*◌, ◌^◌, ◌<◌, ◌≤◌, ◌≢◌, ◌⊎◌, List, ℤ, Some, None, Option, sym, refl, ap, ◌∙◌, subst, inl, inr, arith}
use native.Mathlib.Decide.{dec_lt}
use Rattle.kinds.specs.Arithmetic.{Arithmetic, Amount, AtMost, Lawful}
use Rattle.elimination.specs.Walks.{Swept, Sweeps}
use Rattle.elimination.proofs.Sweep.{swept_next}
use Rattle.elimination.proofs.Sized.{swept_small, into_small, out_small}
use Rattle.elimination.specs.Held.{Held, nil, plus, le, size}
use Rattle.elimination.proofs.Laws.{same, amounts, measured}
use Rattle.eliminator.specs.Views.{Grid}
use Rattle.eliminator.specs.State.{Forced, Works, Ready, Stage}
use Rattle.eliminator.proofs.Stages.{net, single}
use Rattle.sweeper.specs.Sums.{Leasts, Sums, Led}
use Rattle.sweeper.specs.Best.{Into, Out, Done, Table, Summed}

apart? : (i j : ℕ) → i ≢ j → (i < j) ⊎ (j < i)
apart? i j d = elim (dec_lt i j) [ yes h ↦ inl h | no h ↦ inr (omega arith) ]

module _ {K : Type 0} {A : Arithmetic} (amount : K → List ℤ) (proper : (x : K) → Amount A (amount x)) (n : ℕ) (few : n ≤ 128) (xs : Grid K) (ds : Leasts K) (done : Done A amount n xs n 0 ds) where
  into : (x y : ℕ) → x < y → y < n → Into A amount n xs ds x y (ds x y)
  into x y h l = done.into x y h (inl l)

  out : (x y : ℕ) → y < x → x < n → Out A amount n xs ds x y (ds x y)
  out x y h l = done.out x y h (inl l)

  led : Led A amount n xs ds
  led = record {
    plain = λ i j hi hj d e. elim (apart? i j d) [ inl h ↦ (into i j h hj).plain e | inr h ↦ (out i j h hi).plain e ];
    leads = λ i j m hi hj d e. elim (apart? i j d) [
      | inl h ↦ let (l, o, p) = (into i j h hj).parts m e in record { by_is = e; off_i = o; off_j = omega arith; two = d; low = omega arith }
      | inr h ↦ let (l, o, p) = (out i j h hi).parts m e in record { by_is = e; off_i = omega arith; off_j = o; two = d; low = omega arith }
    ];
    ahead = λ i j m h hj e. ((into i j h hj).parts m e).2;
    back = λ i j m h hi e. ((out i j h hi).parts m e).2;
  }

  module _ (L : Lawful A) (us : Grid K) (ready : Ready A amount n us) (stage : Stage L amount n 0 us xs) where
    abbrev D : ℕ → ℕ → Held A → Type 0
    D = Table L amount n ds

    abbrev W : ℕ → ℕ → Held A → Type 0
    W i j a = Works amount n xs i j a.0

    one : (i j : ℕ) (a b : Held A) → D i j a → D i j b → a ≡ b
    one i j a b (inl p) (inl q) = p.1 ∙ sym q.1
    one i j a b (inl p) (inr q) = absurd (q.0 p.0)
    one i j a b (inr p) (inl q) = absurd (p.0 q.0)
    one i j a b (inr p) (inr q) =
        let e = p.1.2.1 in
        let f = q.1.2.1 in
        let z : p.1.2.0 ≡ q.1.2.0 = cc in
        same L a b (p.1.2.2 ∙ ap amount z ∙ sym q.1.2.2)

    unit_most : (a : List ℤ) (b c : Held A) → b ≡ nil L → AtMost A a c.0 → AtMost A a (A.plus b.0 c.0)
    unit_most a b c e h = subst (λ (t : List ℤ). AtMost A a t) (sym (ap (λ (t : Held A). A.plus t.0 c.0) e ∙ L.neutral c.0 c.1)) h

    unit_most' : (a : List ℤ) (b c : Held A) → c ≡ nil L → AtMost A a b.0 → AtMost A a (A.plus b.0 c.0)
    unit_most' a b c e h = subst (λ (t : List ℤ). AtMost A a t) (L.comm c.0 b.0 c.1 b.1) (unit_most a c b e h)

    most : {x y z : List ℤ} → y ≡ z → AtMost A x z → AtMost A x y
    most e h = rw e h

    most_sum : {x b c d e : List ℤ} → b ≡ d → c ≡ e → AtMost A x (A.plus d e) → AtMost A x (A.plus b c)
    most_sum p q h = rw (p, q) h

    sizes : (b c : Held A) (x y : K) → b.0 ≡ amount x → c.0 ≡ amount y → size A b + 2 ^ 40 ≤ n * 2 ^ 40 → size A c + 2 ^ 40 ≤ n * 2 ^ 40 → A.size (amount x) + A.size (amount y) ≤ 2 ^ 60
    sizes b c x y e f p q =
        let u : A.size b.0 ≡ A.size (amount x) = ap A.size e in
        let v : A.size c.0 ≡ A.size (amount y) = ap A.size f in
        omega arith

    sweeps : (k : ℕ) → k < n → Swept (nil L) (plus L) (le A) (λ i j a. Forced amount n us i j a.0) k D → Sweeps (nil L) (plus L) (le A) k W D
    sweeps k hk s =
        let d_small : (i j : ℕ) → i < k → j < k → i ≢ j → (a : Held A) → D i j a → size A a + 2 ^ 40 ≤ n * 2 ^ 40 = λ i j p q d a x. swept_small (amounts L) (measured L) n (net L amount proper n us ready) stage.kept k s i j (one i j) (omega arith) p q d a x in
        let in_small : (j : ℕ) → j < k → (a : Held A) → W j k a → size A a + 2 ^ 40 ≤ n * 2 ^ 40 = λ j p a x. into_small (amounts L) (measured L) n (net L amount proper n us ready) stage.kept k j (single L amount proper n xs j k) hk p a x in
        let out_small' : (j : ℕ) → j < k → (a : Held A) → W k j a → size A a + 2 ^ 40 ≤ n * 2 ^ 40 = λ j p a x. out_small (amounts L) (measured L) n (net L amount proper n us ready) stage.kept k j (single L amount proper n xs k j) hk p a x in
        record {
          into_from = λ i a h d. elim d [
            | inl z ↦ absurd (let e = z.0 in omega arith)
            | inr z ↦ from_into i a h z.1 (ds i k).by refl
          ];
          into_tries = λ i j b c p q x y. elim x [
            | inl z ↦
                let (a, e, l) = (into i k p hk).keeps y.2.0 (ap (λ (t : ℕ). (xs t k).worked) z.0 ∙ y.2.1) in
                ((amount a, proper a), inr (omega arith, (omega arith, hk, (a, e, refl))), unit_most (amount a) b c z.1 (most y.2.2 l))
            | inr z ↦
                let (a, e, l) = (into i k p hk).tries j z.1.2.0 y.2.0 q (λ t. z.0 (sym t)) z.1.2.1 y.2.1 (sizes b c _ _ z.1.2.2 y.2.2 (d_small i j p q z.0 b (inr z)) (in_small j q c y)) in
                ((amount a, proper a), inr (omega arith, (omega arith, hk, (a, e, refl))), most_sum z.1.2.2 y.2.2 l)
          ];
          out_from = λ i a h d. elim d [
            | inl z ↦ absurd (let e = z.0 in omega arith)
            | inr z ↦ from_out i a h z.1 (ds k i).by refl
          ];
          out_tries = λ i j b c p q y x. elim x [
            | inl z ↦
                let (a, e, l) = (out k i p hk).keeps y.2.0 (ap (λ (t : ℕ). (xs k t).worked) (sym z.0) ∙ y.2.1) in
                ((amount a, proper a), inr (omega arith, (hk, omega arith, (a, e, refl))), unit_most' (amount a) b c z.1 (most y.2.2 l))
            | inr z ↦
                let (a, e, l) = (out k i p hk).tries j y.2.0 z.1.2.0 q z.0 y.2.1 z.1.2.1 (sizes b c _ _ y.2.2 z.1.2.2 (out_small' j q b y) (d_small j i q p z.0 c (inr z))) in
                ((amount a, proper a), inr (omega arith, (hk, omega arith, (a, e, refl))), most_sum y.2.2 z.1.2.2 l)
          ];
          self = inl (refl, refl);
          only = λ a d. elim d [ inl z ↦ z.1 | inr z ↦ absurd (z.0 refl) ];
        }
      where
        from_into : (i : ℕ) (a : Held A) → i < k → Sums amount n ds i k a.0 → (o : Option ℕ) → (ds i k).by ≡ o → (j : ℕ) × (b : Held A) × (c : Held A) × (j < k) × D i j b × W j k c × (a ≡ plus L b c)
        from_into i a h z None e = (i, nil L, a, h, inl (refl, refl), (z.0, z.1, (z.2.0, sym ((into i k h hk).plain e) ∙ z.2.1, z.2.2)), sym ((amounts L).unit a))
        from_into i a h z (Some m) e =
            let (l, o, p) = (into i k h hk).parts m e in
            let u = z.2.1 in
            let v = p.sum_is in
            let w : z.2.0 ≡ p.sum = cc in
            (m, (amount p.front, proper p.front), (amount p.back, proper p.back), l, inr (λ t. o (sym t), (z.0, omega arith, (p.front, p.front_is, refl))), (omega arith, hk, (p.back, p.back_is, refl)), same L a _ (z.2.2 ∙ ap amount w ∙ p.adds))

        from_out : (i : ℕ) (a : Held A) → i < k → Sums amount n ds k i a.0 → (o : Option ℕ) → (ds k i).by ≡ o → (j : ℕ) × (b : Held A) × (c : Held A) × (j < k) × W k j b × D j i c × (a ≡ plus L b c)
        from_out i a h z None e = (i, a, nil L, h, (z.0, z.1, (z.2.0, sym ((out k i h hk).plain e) ∙ z.2.1, z.2.2)), inl (refl, refl), sym ((amounts L).comm a (nil L) ∙ (amounts L).unit a))
        from_out i a h z (Some m) e =
            let (l, o, p) = (out k i h hk).parts m e in
            let u = z.2.1 in
            let v = p.sum_is in
            let w : z.2.0 ≡ p.sum = cc in
            (m, (amount p.front, proper p.front), (amount p.back, proper p.back), l, (hk, omega arith, (p.front, p.front_is, refl)), inr (o, (omega arith, z.1, (p.back, p.back_is, refl))), same L a _ (z.2.2 ∙ ap amount w ∙ p.adds))

    swept : (k : ℕ) → k ≤ n → Swept (nil L) (plus L) (le A) (λ i j a. Forced amount n us i j a.0) k D
    swept zero h = record { pair = λ i j p q d. absurd (omega arith); self = λ i p. absurd (omega arith); only = λ i a p x. absurd (omega arith); loops = λ i s p w. absurd (omega arith) }
    swept (suc k) h = let s = swept k (omega arith) in swept_next (amounts L) k (stage.kept.rings k (omega arith) h) s (sweeps k h s)

  pub summed : Summed A amount n xs ds
  summed = record { led = led; swept = λ L us ready stage. swept L us ready stage n (omega arith); selves = done.selves }

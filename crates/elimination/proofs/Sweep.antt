-- One step of the sweep: D exact below k, and then up to k.
use mathlib.Core.Path.{◌≡◌, refl, sym, ap, ◌∙◌}
use mathlib.Core.Logic.{◌⊎◌, inl, inr, ◌≢◌}
use Prim.Native.Nat.{ℕ, ◌≤◌, ◌<◌, suc}
use native.Mathlib.Omega.{arith}
use native.Mathlib.Decide.{dec_le, ℕ_discrete}
use Rattle.elimination.specs.Amounts.{Amounts}
use Rattle.elimination.specs.Walks.{Walk, Any, Exact, Ring, Swept, Sweeps}
use Rattle.elimination.proofs.Order.{unit_right, drop_front, drop_back, mono_both}
use Rattle.elimination.proofs.Rows.{loosen, join, first, last, cut}

-- below k, or from k on
pub side : (k x : ℕ) → Any x → (k ≤ x) ⊎ (x < k)
side k x t = elim (dec_le k x) [ yes h ↦ inl h | no h ↦ inr (omega arith) ]

pub up_to : (k x : ℕ) → x < suc k → (x < k) ⊎ (x ≡ k)
up_to k x h = elim (dec_le k x) [ yes l ↦ inr (omega arith) | no l ↦ inl (omega arith) ]

moved : {A : Type 0} {plus : A → A → A} {E : ℕ → ℕ → A → Type 0} {P : ℕ → Type 0} {i j k l : ℕ} {a b : A} → i ≡ k → j ≡ l → a ≡ b → Walk plus E P k l b → Walk plus E P i j a
moved p q r w = rw (p, q, r) w

module _ {A : Type 0} {zero : A} {plus : A → A → A} {le : A → A → Type 0} (L : Amounts zero plus le) {E : ℕ → ℕ → A → Type 0} where
  module _ (k : ℕ) {W D : ℕ → ℕ → A → Type 0} (ring : Ring zero plus le E k W) (swept : Swept zero plus le E k D) (next : Sweeps zero plus le k W D) where
    any : {P : ℕ → Type 0} {i j : ℕ} {s : A} → Walk plus E P i j s → Walk plus E Any i j s
    any w = loosen (λ x h. tt) w

    -- W's bounds are least among the walks over the events from k on
    into_k : (j : ℕ) (s : A) → j < k → Walk plus E (λ x. k ≤ x) j k s → (a : A) × W j k a × le a s
    into_k j s h w = elim (cut L k ring.loops w) [
      | inl c ↦ let (a, v, l) = (ring.into j h).least c.sum c.row in (a, v, L.trans _ _ _ l c.less)
      | inr c ↦
          let (a, v, l) = (ring.into j h).least c.front c.before in
          (a, v, L.trans _ _ _ l (L.trans _ _ _ (drop_back L _ _ (ring.loops _ c.after)) c.less))
    ]

    out_k : (j : ℕ) (s : A) → j < k → Walk plus E (λ x. k ≤ x) k j s → (a : A) × W k j a × le a s
    out_k j s h w = elim (cut L k ring.loops w) [
      | inl c ↦ let (a, v, l) = (ring.out j h).least c.sum c.row in (a, v, L.trans _ _ _ l c.less)
      | inr c ↦
          let (a, v, l) = (ring.out j h).least c.back c.after in
          (a, v, L.trans _ _ _ l (L.trans _ _ _ (drop_front L _ _ (ring.loops _ c.before)) c.less))
    ]

    loop_k : (s : A) → Walk plus E (λ x. k ≤ x) k k s → le zero s
    loop_k s w = elim (cut L k ring.loops w) [
      | inl c ↦ L.trans _ _ _ (ring.loops _ c.row) c.less
      | inr c ↦ L.trans _ _ _ (ring.loops _ c.before) (L.trans _ _ _ (drop_back L _ _ (ring.loops _ c.after)) c.less)
    ]

    -- D below k, also where the two ends are one
    reach : (i j : ℕ) (s : A) → i < k → j < k → Walk plus E Any i j s → (a : A) × D i j a × le a s
    reach i j s hi hj w = elim (ℕ_discrete i j) [
      | yes e ↦ (zero, rw e (swept.self j hj), swept.loops i s hi (rw (← e) at w))
      | no d ↦ (swept.pair i j hi hj d).least s w
    ]

    into_least : (i : ℕ) (s : A) → i < k → Walk plus E Any i k s → (a : A) × D i k a × le a s
    into_least i s h w = elim (last L (side k) w) [
      | inl v ↦
          let (c, x, l) = into_k i s h v in
          let (a, y, m) = next.into_tries i i zero c h h (swept.self i h) x in
          (a, y, L.trans _ _ _ (rw (L.unit c) at m) l)
      | inr p ↦
          let (c, x, l) = into_k p.at p.back p.there p.after in
          let (b, z, o) = reach i p.at p.front h p.there p.before in
          let (a, y, m) = next.into_tries i p.at b c h p.there z x in
          (a, y, rw p.sums (L.trans _ _ _ m (mono_both L _ _ _ _ o l)))
    ]

    out_least : (i : ℕ) (s : A) → i < k → Walk plus E Any k i s → (a : A) × D k i a × le a s
    out_least i s h w = elim (first L (side k) w) [
      | inl v ↦
          let (c, x, l) = out_k i s h v in
          let (a, y, m) = next.out_tries i i c zero h h x (swept.self i h) in
          (a, y, L.trans _ _ _ (rw (L.comm c zero, L.unit c) at m) l)
      | inr p ↦
          let (c, x, l) = out_k p.at p.front p.there p.before in
          let (b, z, o) = reach p.at i p.back p.there h p.after in
          let (a, y, m) = next.out_tries i p.at c b h p.there x z in
          (a, y, rw p.sums (L.trans _ _ _ m (mono_both L _ _ _ _ l o)))
    ]

    into_sound : (i : ℕ) (a : A) → i < k → D i k a → Walk plus E Any i k a
    into_sound i a h d =
        let (j, b, c, hj, x, y, e) = next.into_from i a h d in
        let w = any ((ring.into j hj).sound c y) in
        elim (ℕ_discrete i j) [
          | yes q ↦ moved q refl (e ∙ ap (λ z. plus z c) (swept.only i b h (rw (← q) at x)) ∙ L.unit c) w
          | no q ↦ rw e (join L ((swept.pair i j h hj q).sound b x) tt w)
        ]

    out_sound : (i : ℕ) (a : A) → i < k → D k i a → Walk plus E Any k i a
    out_sound i a h d =
        let (j, b, c, hj, x, y, e) = next.out_from i a h d in
        let w = any ((ring.out j hj).sound b x) in
        elim (ℕ_discrete j i) [
          | yes q ↦ moved refl (sym q) (e ∙ ap (plus b) (swept.only i c h (rw q at y)) ∙ unit_right L b) w
          | no q ↦ rw e (join L w tt ((swept.pair j i hj h q).sound c y))
        ]

    loop_all : (s : A) → Walk plus E Any k k s → le zero s
    loop_all s w = elim (first L (side k) w) [
      | inl v ↦ loop_k s v
      | inr p ↦ rw (p.sums, L.comm p.front p.back) (swept.loops p.at _ p.there (join L p.after tt (any p.before)))
    ]

    pair_of : (i j : ℕ) → (i < k) ⊎ (i ≡ k) → (j < k) ⊎ (j ≡ k) → i ≢ j → Exact zero plus le E Any (D i j) i j
    pair_of i j (inl p) (inl q) d = swept.pair i j p q d
    pair_of i j (inl p) (inr q) d = rw q record { sound = λ a x. into_sound i a p x; least = λ s w. into_least i s p w }
    pair_of i j (inr p) (inl q) d = rw p record { sound = λ a x. out_sound j a q x; least = λ s w. out_least j s q w }
    pair_of i j (inr p) (inr q) d = absurd (d (p ∙ sym q))

    pub swept_next : Swept zero plus le E (suc k) D
    swept_next = record {
      pair = λ i j p q d. pair_of i j (up_to k i p) (up_to k j q) d;
      self = λ i p. elim (up_to k i p) [ inl h ↦ swept.self i h | inr e ↦ rw e next.self ];
      only = λ i a p x. elim (up_to k i p) [ inl h ↦ swept.only i a h x | inr e ↦ next.only a (rw e at x) ];
      loops = λ i s p w. elim (up_to k i p) [ inl h ↦ swept.loops i s h w | inr e ↦ loop_all s (rw e at w) ];
    }

-- What the laws of an arithmetic give.
use Rattle.std.proofs.Common.{◌≡◌, ℕ, Bool, true, false, ◌⊎◌, List, ℤ, sym, refl, ap, ◌∙◌, subst, inl, inr, arith}
use Rattle.kinds.specs.Arithmetic.{Arithmetic, Amount, AtMost, Lawful, Inverse}

pub decide : (b : Bool) → (b ≡ true) ⊎ (b ≡ false)
decide true = inl refl
decide false = inr refl

pub clash : {X : Type 0} (b : Bool) → b ≡ true → b ≡ false → X
clash b p q = let z : ◌≡◌ {A = ℕ} 0 1 = cc in absurd (omega arith)

module _ {A : Arithmetic} (L : Lawful A) where
  pub unit_right : (a : List ℤ) → Amount A a → A.plus a A.zero ≡ a
  unit_right a p = L.comm a A.zero p L.zero_amount ∙ L.neutral a p

  pub mono_right : (a b c : List ℤ) → Amount A a → Amount A b → Amount A c → AtMost A a b → AtMost A (A.plus c a) (A.plus c b)
  mono_right a b c p q r h = rw (L.comm c a r p, L.comm c b r q) (L.keeps a b c p q r h)

  -- what is not negative can be left out in front
  pub drop_front : (a b : List ℤ) → Amount A a → Amount A b → AtMost A A.zero a → AtMost A b (A.plus a b)
  drop_front a b p q h = rw (L.neutral b q) at (L.keeps A.zero a b L.zero_amount p q h)

  pub other : (a b : List ℤ) → Amount A a → Amount A b → A.at_most a b ≡ false → AtMost A b a
  other a b p q h = elim (L.total a b p q) [ inl e ↦ clash (A.at_most a b) e h | inr e ↦ e ]

  -- the greater of two
  pub greater : (a b : List ℤ) → Amount A a → Amount A b → (c : List ℤ) × Amount A c × AtMost A a c × AtMost A b c
  greater a b p q = elim (L.total a b p q) [ inl h ↦ (b, q, h, L.reflexive b q) | inr h ↦ (a, p, L.reflexive a p, h) ]

module _ {A : Arithmetic} (L : Lawful A) {minus : List ℤ → List ℤ} (V : Inverse A minus) where
  undone : (a : List ℤ) → Amount A a → A.plus (minus a) a ≡ A.zero
  undone a p = L.comm (minus a) a (V.minus_amount a p) p ∙ V.undoes a p

  -- an opposite undoes what is added in front
  refund : (a b : List ℤ) → Amount A a → Amount A b → A.plus (minus a) (A.plus a b) ≡ b
  refund a b p q = sym (L.assoc (minus a) a b (V.minus_amount a p) p q) ∙ ap (λ (z : List ℤ). A.plus z b) (undone a p) ∙ L.neutral b q

  -- what stands on both sides goes
  pub cancel : (a b c : List ℤ) → Amount A a → Amount A b → Amount A c → AtMost A (A.plus a b) (A.plus a c) → AtMost A b c
  cancel a b c p q r h =
      rw (refund a b p q, refund a c p r) at (mono_right L (A.plus a b) (A.plus a c) (minus a) (L.plus_amount a b p q) (L.plus_amount a c p r) (V.minus_amount a p) h)

  pub cancel_unit : (a b : List ℤ) → Amount A a → Amount A b → AtMost A a (A.plus a b) → AtMost A A.zero b
  cancel_unit a b p q h = cancel a A.zero b p L.zero_amount q (subst (λ (z : List ℤ). AtMost A z (A.plus a b)) (sym (unit_right L a p)) h)

  -- an opposite, on the other side
  pub flip : (d x : List ℤ) → Amount A d → Amount A x → AtMost A (minus d) x → AtMost A A.zero (A.plus x d)
  flip d x p q h = rw (undone d p) at (L.keeps (minus d) x d (V.minus_amount d p) q p h)

  pub flip_back : (d x : List ℤ) → Amount A d → Amount A x → AtMost A A.zero (A.plus x d) → AtMost A (minus d) x
  flip_back d x p q h =
      let m = V.minus_amount d p in
      let right : A.plus (A.plus x d) (minus d) ≡ x = L.assoc x d (minus d) q p m ∙ ap (A.plus x) (V.undoes d p) ∙ unit_right L x q in
      rw (L.neutral (minus d) m, right) at (L.keeps A.zero (A.plus x d) (minus d) L.zero_amount (L.plus_amount x d q p) m h)

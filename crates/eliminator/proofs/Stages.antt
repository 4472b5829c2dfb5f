-- One step of the elimination, over the amounts of a kind.
use Rattle.std.proofs.Common.{◌≡◌, ℕ, suc, ◌+◌, ◌*◌, ◌^◌, ◌<◌, ◌≤◌, ◌≢◌, ◌⊎◌, List, ℤ, Some, None, Option, sym, refl, ap, ◌∙◌, subst, inl, inr, ⊎_elim, arith}
use native.Mathlib.Decide.{dec_lt, ℕ_discrete}
use Rattle.kinds.specs.Arithmetic.{Arithmetic, Amount, AtMost, Lawful}
use Rattle.elimination.specs.Walks.{Eliminates, Tests}
use Rattle.elimination.proofs.Sweep.{up_to}
use Rattle.elimination.proofs.Steps.{starts}
use Rattle.elimination.proofs.InPlace.{carry, kept_next}
use Rattle.elimination.specs.Sizes.{Net}
use Rattle.elimination.proofs.Sized.{exact_size, all_calm}
use Rattle.elimination.specs.Held.{Held, nil, plus, le, size}
use Rattle.elimination.proofs.Laws.{same, amounts, measured}
use Rattle.table.specs.declared.cell.Cell.{Cell}
use Rattle.eliminator.specs.Views.{Grid}
use Rattle.eliminator.specs.Steps.{Whole}
use Rattle.eliminator.specs.State.{Forced, Works, SameForce, Ready, Split, Traced, Stage, Bears}

-- below k and two, or not
where_is : (k x y : ℕ) → ((x < k) × (y < k) × (x ≢ y)) ⊎ ((k ≤ x) ⊎ ((k ≤ y) ⊎ (x ≡ y)))
where_is k x y = elim (dec_lt x k) [
  | yes p ↦ elim (dec_lt y k) [ yes q ↦ elim (ℕ_discrete x y) [ yes e ↦ inr (inr (inr e)) | no d ↦ inl (p, q, d) ] | no q ↦ inr (inr (inl (omega arith))) ]
  | no p ↦ inr (inl (omega arith))
]

module _ {K : Type 0} {A : Arithmetic} {amount : K → List ℤ} {n : ℕ} where
  pub whole_force : (k : ℕ) (xs ys : Grid K) → Whole A amount n k xs ys → SameForce n xs ys
  whole_force k xs ys p i j hi hj = ⊎_elim (λ t. (p.done i j t.0 t.1 t.2).force) (λ o. ap (λ (t : Cell K). t.bound) (p.same i j hi hj o)) (where_is k i j)

  split_same : (k lo : ℕ) (xs ys : Grid K) (i j v : ℕ) → k < lo → i < n → j < n → Whole A amount n k xs ys → ys i j ≡ xs i j → Split A amount n lo xs i j v → Split A amount n k ys i j v
  split_same k lo xs ys i j v h hi hj p e s = record {
    low_i = s.low_i;
    low_j = s.low_j;
    past = let t = s.past in omega arith;
    within = s.within;
    front = s.front;
    back = s.back;
    sum = s.sum;
    front_is = ap (λ (t : Cell K). t.worked) (p.same i v hi s.within (inr (inl (let t = s.past in omega arith)))) ∙ s.front_is;
    back_is = ap (λ (t : Cell K). t.worked) (p.same v j s.within hj (inl (let t = s.past in omega arith))) ∙ s.back_is;
    sum_is = ap (λ (t : Cell K). t.worked) e ∙ s.sum_is;
    adds = s.adds;
  }

  pub traced_next : (k : ℕ) (xs ys : Grid K) → k < n → Whole A amount n k xs ys → Traced A amount n (suc k) xs → Traced A amount n k ys
  traced_next k xs ys hk p t = record {
    plain = λ i j hi hj d e. ⊎_elim
        (λ w. ⊎_elim
        (λ r. ap (λ (z : Cell K). z.worked) r ∙ t.plain i j hi hj d (ap (λ (z : Cell K). z.via) (sym r) ∙ e) ∙ ap (λ (z : Cell K). z.bound) (sym r))
        (λ l. let a = l.via_is in let z : ◌≡◌ {A = ℕ} 0 1 = cc in absurd (omega arith))
        (p.done i j w.0 w.1 w.2).either)
        (λ o. let r = p.same i j hi hj o in ap (λ (z : Cell K). z.worked) r ∙ t.plain i j hi hj d (ap (λ (z : Cell K). z.via) (sym r) ∙ e) ∙ ap (λ (z : Cell K). z.bound) (sym r))
        (where_is k i j);
    split = λ i j v hi hj d e. ⊎_elim
        (λ w. ⊎_elim
        (λ r. split_same k (suc k) xs ys i j v (omega arith) hi hj p r (t.split i j v hi hj d (ap (λ (z : Cell K). z.via) (sym r) ∙ e)))
        (λ l.
        let a = l.via_is in
        let z : k ≡ v = cc in
        subst (λ (v : ℕ). Split A amount n k ys i j v) z record {
          low_i = w.0;
          low_j = w.1;
          past = omega arith;
          within = hk;
          front = l.front;
          back = l.back;
          sum = l.sum;
          front_is = ap (λ (z : Cell K). z.worked) (p.same i k hi hk (inr (inl (omega arith)))) ∙ l.front_is;
          back_is = ap (λ (z : Cell K). z.worked) (p.same k j hk hj (inl (omega arith))) ∙ l.back_is;
          sum_is = l.sum_is;
          adds = l.adds;
        })
        (p.done i j w.0 w.1 w.2).either)
        (λ o. let r = p.same i j hi hj o in split_same k (suc k) xs ys i j v (omega arith) hi hj p r (t.split i j v hi hj d (ap (λ (z : Cell K). z.via) (sym r) ∙ e)))
        (where_is k i j);
  }

-- at equal rows
most : (A : Arithmetic) {x y z : List ℤ} → y ≡ z → AtMost A x z → AtMost A x y
most A e h = rw e h

most_sum : (A : Arithmetic) {x b c d e : List ℤ} → b ≡ d → c ≡ e → AtMost A x (A.plus d e) → AtMost A x (A.plus b c)
most_sum A p q h = rw (p, q) h

module _ {K : Type 0} {A : Arithmetic} (L : Lawful A) (amount : K → List ℤ) (proper : (x : K) → Amount A (amount x)) (n : ℕ) where
  abbrev E : Grid K → ℕ → ℕ → Held A → Type 0
  E xs i j a = Forced amount n xs i j a.0

  abbrev W : Grid K → ℕ → ℕ → Held A → Type 0
  W xs i j a = Works amount n xs i j a.0

  abbrev value : K → Held A
  value b = (amount b, proper b)

  pub net : (xs : Grid K) → Ready A amount n xs → Net (nil L) (le A) (size A) (E xs) n
  net xs r = record {
    within = λ i j a e. (e.0, e.1);
    calm = λ i a e. let p = r.calm i e.0 in let q = e.2.1 in let z : ◌≡◌ {A = ℕ} 0 1 = cc in absurd (omega arith);
    small = λ i j a e. let z : A.size a.0 ≡ A.size (amount e.2.0) = ap A.size e.2.2 in let h = r.small i j e.2.0 e.0 e.1 e.2.1 in omega arith;
  }

  pub stage_start : (xs : Grid K) → Ready A amount n xs → Stage L amount n n xs xs
  stage_start xs r =
      let s = starts (amounts L) {E = E xs} n (net xs r).within (net xs r).calm in
      record {
        traced = record { plain = λ i j hi hj d e. r.fresh i j hi hj; split = λ i j v hi hj d e. let p = r.plain i j hi hj in let z : ◌≡◌ {A = ℕ} 0 1 = cc in absurd (omega arith) };
        kept = record {
          worked = record {
            pair = λ i j hi hj d. carry (amounts L) (λ a. (λ w. (w.0, w.1, (w.2.0, sym (r.fresh i j w.0 w.1) ∙ w.2.1, w.2.2)), λ e. (e.0, e.1, (e.2.0, r.fresh i j e.0 e.1 ∙ e.2.1, e.2.2)))) (s.pair i j hi hj d);
            loops = s.loops;
          };
          rings = λ m p q. absurd (omega arith);
        };
      }

  -- a place holds one amount
  pub single : (xs : Grid K) (i j : ℕ) (a b : Held A) → W xs i j a → W xs i j b → a ≡ b
  single xs i j a b p q =
      let e = p.2.1 in
      let f = q.2.1 in
      let z : p.2.0 ≡ q.2.0 = cc in
      same L a b (p.2.2 ∙ ap amount z ∙ sym q.2.2)

  -- no sum of two worked bounds is too great
  pub worked_small : (k : ℕ) (xs ys : Grid K) → Ready A amount n xs → k ≤ n → Stage L amount n k xs ys → (i j : ℕ) (a : Held A) → i < k → j < k → i ≢ j → W ys i j a → size A a + 2 ^ 40 ≤ n * 2 ^ 40
  worked_small k xs ys r h s i j a hi hj d w =
      exact_size (amounts L) (measured L) n (net xs r) i j d (all_calm (amounts L) n k (net xs r).within s.kept h) (s.kept.worked.pair i j hi hj d) (single ys i j) (omega arith) a w

  module _ (few : n ≤ 128) (k : ℕ) (xs ys zs : Grid K) (hk : k < n) (ready : Ready A amount n xs) (stage : Stage L amount n (suc k) xs ys) where
    fits : (i j : ℕ) (b c : K) → i < k → j < k → (ys i k).worked ≡ Some b → (ys k j).worked ≡ Some c → A.size (amount b) + A.size (amount c) ≤ 2 ^ 60
    fits i j b c hi hj p q =
        let x = worked_small (suc k) xs ys ready hk stage i k (value b) (omega arith) (omega arith) (omega arith) (omega arith, hk, (b, p, refl)) in
        let y = worked_small (suc k) xs ys ready hk stage k j (value c) (omega arith) (omega arith) (omega arith) (hk, omega arith, (c, q, refl)) in
        omega arith

    tests : ((x : ℕ) → x < k → Bears A amount (ys x k).worked (ys k x).worked) → Tests (nil L) (plus L) (le A) k (W ys)
    tests t i b c h u v =
        most_sum A u.2.2 v.2.2 (t i h u.2.0 v.2.0 u.2.1 v.2.1 (fits i i u.2.0 v.2.0 h h u.2.1 v.2.1))

    eliminates : Whole A amount n k ys zs → Eliminates (nil L) (plus L) (le A) k (W ys) (W zs)
    eliminates p = record {
      from = λ i j a hi hj d v. elim (p.done i j hi hj d).either [
        | inl e ↦ inl (v.0, v.1, (v.2.0, ap (λ (t : Cell K). t.worked) (sym e) ∙ v.2.1, v.2.2))
        | inr l ↦
            let s = l.sum_is in
            let t = v.2.1 in
            let z : v.2.0 ≡ l.sum = cc in
            inr (value l.front, value l.back, (v.0, hk, (l.front, l.front_is, refl)), (hk, v.1, (l.back, l.back_is, refl)), same L a _ (v.2.2 ∙ ap amount z ∙ l.adds))
      ];
      keeps = λ i j a hi hj d w. elim (p.done i j hi hj d).either [
        | inl e ↦ (a, (w.0, w.1, (w.2.0, ap (λ (t : Cell K). t.worked) e ∙ w.2.1, w.2.2)), (amounts L).refl_le a)
        | inr l ↦ (
          value l.sum,
          (w.0, w.1, (l.sum, l.sum_is, refl)),
          most A w.2.2 (elim ((amounts L).total (value w.2.0) (value l.sum)) [
            | inl h ↦ absurd (l.less w.2.0 w.2.1 h)
            | inr h ↦ h
          ]),
        )
      ];
      tries = λ i j b c hi hj d x y.
          let (a, e, l) = (p.done i j hi hj d).tries x.2.0 y.2.0 x.2.1 y.2.1 (fits i j x.2.0 y.2.0 hi hj x.2.1 y.2.1) in
          (value a, (x.0, y.1, (a, e, refl)), most_sum A x.2.2 y.2.2 l);
      rest = λ i j a o. (
        λ v. (v.0, v.1, (v.2.0, ap (λ (t : Cell K). t.worked) (sym (p.same i j v.0 v.1 (elim o [ inl h ↦ inl h | inr h ↦ inr (inl h) ]))) ∙ v.2.1, v.2.2)),
        λ w. (w.0, w.1, (w.2.0, ap (λ (t : Cell K). t.worked) (p.same i j w.0 w.1 (elim o [ inl h ↦ inl h | inr h ↦ inr (inl h) ])) ∙ w.2.1, w.2.2)),
      );
    }

    pub stage_next : ((x : ℕ) → x < k → Bears A amount (ys x k).worked (ys k x).worked) → Whole A amount n k ys zs → Stage L amount n k xs zs
    stage_next t p = record {
      traced = traced_next k ys zs hk p stage.traced;
      kept = kept_next (amounts L) n k stage.kept (tests t) (eliminates p);
    }

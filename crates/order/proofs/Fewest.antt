-- The member with fewest neighbours, as `min_by_key` finds it among members that come from the lowest up.
use Rattle.std.proofs.Common.{◌≡◌, ℕ, ◌<◌, ◌≤◌, true, false, List, [], ◌∷◌, Some, None, Option, sym, ap, ◌∙◌, subst, ⊎_elim, arith, MatchOption}
use denote.Param.Members.{Mut}
use denote.Ref.{Bor}
use Rattle.std.specs.Fn.{CalledAt, TakesAt}
use Rattle.std.specs.List.{FoldsTo}
use Rattle.std.specs.Iterator.{Yields, KeyTurn, PicksMinByKey, CallableInMinByKey}
use Rattle.std.specs.Ordering.{nat_cmp, min_by_ordering, MatchOrdering}
use Rattle.std.specs.declared.cmp.Ordering.{Ordering}
use Rattle.std.specs.declared.cmp.Ordering.TheVariants.{Less, Equal, Greater}
use Rattle.std.specs.Cmp.{ranks}
use Rattle.std.proofs.lemmas.Bool.{both_ways}
use Rattle.marks.specs.declared.set.Marks.{Marks}
use Rattle.marks.specs.declared.members.Members.{Members}
use Rattle.marks.specs.Sets.{has, Taken, Visits}
use Rattle.order.specs.Neighbours.{Chosen, free_degree}
use Rattle.marks.proofs.Taking.{taken_still, taken_left}

module _ (sets : List Marks) (free : Marks) where
  abbrev cost : ℕ → ℕ
  cost = free_degree sets free

  -- e costs least of the members that came, and is the lowest of those that cost as much
  pub record Least (rest : Marks) (e : ℕ) : Type 0 where
    pub part : (x : ℕ) → has rest x ≡ true → has free x ≡ true
    pub here : has free e ≡ true
    pub ahead : (x : ℕ) → has rest x ≡ true → e < x
    pub least : (x : ℕ) → has free x ≡ true → has rest x ≡ false → cost e ≤ cost x
    pub lowest : (x : ℕ) → has free x ≡ true → has rest x ≡ false → cost x ≤ cost e → e ≤ x

  least_first : (e : ℕ) (rest : Marks) → Taken free e rest → Least rest e
  least_first e rest t =
      let only : (x : ℕ) → has free x ≡ true → has rest x ≡ false → x ≡ e = λ x f r. ⊎_elim (λ same. same) (λ z. absurd (both_ways (has free x) z f)) (taken_left free e rest t x r) in
      record {
        part = λ x r. (taken_still free e rest t x r).0;
        here = t.here;
        ahead = λ x r. (taken_still free e rest t x r).1;
        least = λ x f r. omega (arith, ap cost (only x f r));
        lowest = λ x f r l. omega (arith, only x f r);
      }

  -- one member more: it is kept where it costs less
  least_kept : (rest less : Marks) (e z : ℕ) → Taken rest z less → cost e ≤ cost z → Least rest e → Least less e
  least_kept rest less e z t le h = record {
    part = λ x r. h.part x (taken_still rest z less t x r).0;
    here = h.here;
    ahead = λ x r. h.ahead x (taken_still rest z less t x r).0;
    least = λ x f r. ⊎_elim (λ same. omega (arith, ap cost same)) (h.least x f) (taken_left rest z less t x r);
    lowest = λ x f r l. ⊎_elim (λ same. omega (arith, same, h.ahead z t.here)) (λ old. h.lowest x f old l) (taken_left rest z less t x r);
  }

  least_changed : (rest less : Marks) (e z : ℕ) → Taken rest z less → cost z < cost e → Least rest e → Least less z
  least_changed rest less e z t lt h = record {
    part = λ x r. h.part x (taken_still rest z less t x r).0;
    here = h.part z t.here;
    ahead = λ x r. (taken_still rest z less t x r).1;
    least = λ x f r. ⊎_elim (λ same. omega (arith, ap cost same)) (λ old. omega (arith, h.least x f old)) (taken_left rest z less t x r);
    lowest = λ x f r l. ⊎_elim (λ same. omega arith) (λ old. absurd (omega (arith, h.least x f old))) (taken_left rest z less t x r);
  }

  abbrev steps : Members → Option ℕ → Members → Type 0
  steps s r t = Visits s.rest r t.rest

  module _ {F : Type 0} (g : Mut F (Bor ℕ × Unit {0}) ℕ) (f : F) (acts : (x k : ℕ) (q : F) → CalledAt g f x k q → (q ≡ f) × (k ≡ cost x)) where
    abbrev turn : (F × ℕ) × ℕ → ℕ → (F × ℕ) × ℕ → Type 0
    turn = KeyTurn min_by_ordering min_by_ordering g nat_cmp

    -- the function called, and the key beside the item
    abbrev Keeps : (F × ℕ) × ℕ → Type 0
    Keeps p = (p.0.0 ≡ f) × (p.0.1 ≡ cost p.1)

    compared : (rest less : Marks) (p m : (F × ℕ) × ℕ) (z k : ℕ) → Taken rest z less → m.0.0 ≡ f → k ≡ cost z → Keeps p → Least rest p.1
        → (o : Ordering) → MatchOrdering o (p.0.1 < k) (p.0.1 ≡ k) (k < p.0.1) → m.0.1 ≡ min_by_ordering o p.0.1 k → m.1 ≡ min_by_ordering o p.1 z → Keeps m × Least less m.1
    compared rest less p m z k t same is keeps h Less l key item = ((same, key ∙ keeps.1 ∙ ap cost (sym item)), subst (Least less) (sym item) (least_kept rest less p.1 z t (omega (arith, is, keeps.1)) h))
    compared rest less p m z k t same is keeps h Equal l key item = ((same, key ∙ keeps.1 ∙ ap cost (sym item)), subst (Least less) (sym item) (least_kept rest less p.1 z t (omega (arith, is, keeps.1)) h))
    compared rest less p m z k t same is keeps h Greater l key item = ((same, key ∙ is ∙ ap cost (sym item)), subst (Least less) (sym item) (least_changed rest less p.1 z t (omega (arith, is, keeps.1)) h))

    over : (xs : List ℕ) (s u : Members) (p r : (F × ℕ) × ℕ) → Keeps p → Least s.rest p.1 → Yields steps s xs u → FoldsTo turn p xs r → Least u.rest r.1
    over [] s u p r keeps h yields folds = subst (λ v. Least v.rest r.1) yields (subst (λ v. Least s.rest v.1) folds h)
    over (z ∷ xs) s u p r keeps h (j, t, more) (m, (k, o, called, cmp, key, item), folds) =
        let a = acts z k m.0.0 (subst (λ v. CalledAt g v z k m.0.0) keeps.0 called) in
        let n = compared s.rest j.rest p m z k t a.0 a.1 keeps h o (subst (λ v. MatchOrdering v (p.0.1 < k) (p.0.1 ≡ k) (k < p.0.1)) cmp (ranks p.0.1 k)) key item in
        over xs j u m r n.0 n.1 more folds

    pub picked : (n : ℕ) → ((x : ℕ) → has free x ≡ true → x < n) → (s : Members) (r : Option ℕ) → s.rest ≡ free → PicksMinByKey steps g nat_cmp s f r → MatchOption r ((x : ℕ) → has free x ≡ false) (Chosen sets free n)
    picked n within s None is (w, (t, yields, ends)) = λ x. subst (λ v. has v x ≡ false) is (ap (λ v. has v.rest x) yields ∙ ends x)
    picked n within s (Some y) is (x, xs, k, q, last, (w, (u, (j, first, more), ends)), called, folds) =
        let a = acts x k q called in
        let h = over xs j u ((q, k), x) (last, y) a (least_first x j.rest (subst (λ v. Taken v x j.rest) is first)) more folds in
        record { below = within y h.here; here = h.here; least = λ v l m. h.least v m (ends v); lowest = λ v l m. h.lowest v m (ends v) }

    still : (xs : List ℕ) (s u : Members) → Yields steps s xs u → (x : ℕ) → has u.rest x ≡ true → has s.rest x ≡ true
    still [] s u yields x h = ap (λ v. has v.rest x) yields ∙ h
    still (z ∷ xs) s u (j, t, more) x h = (taken_still s.rest z j.rest t x (still xs j u more x h)).0

    stays : (xs : List ℕ) (p r : (F × ℕ) × ℕ) → p.0.0 ≡ f → FoldsTo turn p xs r → r.0.0 ≡ f
    stays [] p r same folds = sym (ap (λ v. v.0.0) folds) ∙ same
    stays (z ∷ xs) p r same (m, (k, o, called, cmp, key, item), folds) = stays xs m r (acts z k m.0.0 (subst (λ v. CalledAt g v z k m.0.0) same called)).0 folds

    pub callable : (s : Members) → ((x : ℕ) → has s.rest x ≡ true → TakesAt g f x) → CallableInMinByKey steps g nat_cmp s f
    callable s takes x t first = (
      takes x first.here,
      λ k q called. record {
        at = λ xs v p z u yields folds next. subst (λ f'. TakesAt g f' z) (sym (stays xs ((q, k), x) p (acts x k q called).0 folds))
            (takes z (taken_still s.rest x t.rest first z (still xs t v yields z next.here)).0);
      },
    )

-- Each call keeps what every net keeps to.
use Rattle.std.proofs.Common.{◌≡◌, ℕ, ◌<◌, ◌≤◌, Bool, true, false, not, ◌&&◌, eqb, ltb, leb, List, [], ℤ, is_some, Some, None, Ok, Err, Option, Result, sym, refl, ◌∙◌, subst, ⊎_elim, arith}
use Rattle.std.proofs.lemmas.Bool.{cases_Bool, and_parts, ltb-true, leb-true, eqb-true, eqb-false, not-true, cond-true, cond-false, cond_both}
use Rattle.kinds.specs.Arithmetic.{Arithmetic, Amount}
use Rattle.net.specs.declared.mode.Mode.{Mode}
use Rattle.net.specs.declared.mode.Mode.TheVariants.{Open}
use Rattle.net.specs.Limits.{most_events, cells_needed, most_size}
use Rattle.net.specs.State.{State, Outcome, need, accepted, unbound, fresh, rebound, with_bound, lesser, both_events, begun, required, withdrawn, made, ordered_by, arranged, Sound}
use Rattle.order.specs.declared.event_order.Misordered.{Misordered}
use Rattle.order.specs.Orderings as orderings

module _ (A : Arithmetic) where
  none_some : {X : Type 0} (a : X) → None ≡ Some a → ⊥
  none_some a e = let z : ◌≡◌ {A = ℕ} 0 1 = cc in omega arith

  pub sound_unbound : (n : ℕ) (order : List ℕ) (mode : Mode) → Sound A (record { events = n; bounds = unbound; order = order; mode = mode })
  sound_unbound n order mode = record { within = λ i j a e. absurd (none_some a e); amounts = λ i j a e. absurd (none_some a e); sized = λ i j a e. absurd (none_some a e); apart = λ i. refl }

  pub sound_made : Sound A made
  sound_made = sound_unbound 0 [] Open

  -- another ordering and mode
  pub sound_reordered : (s : State) (order : List ℕ) (mode : Mode) → Sound A s → Sound A (record { events = s.events; bounds = s.bounds; order = order; mode = mode })
  sound_reordered s order mode h = record { within = h.within; amounts = h.amounts; sized = h.sized; apart = h.apart }

  sound_need : (t : Bool) (number : ℕ) (s : State) (further : Outcome) → Sound A s → (t ≡ true → Sound A further.after) → Sound A (need t number s further).after
  sound_need true number s further h k = k refl
  sound_need false number s further h k = h

  -- another bound of one pair
  pub sound_with : (s : State) (i j : ℕ) (b : Option (List ℤ)) (order : List ℕ) (mode : Mode) → Sound A s → i < s.events → j < s.events → (i ≡ j → ⊥) → ((a : List ℤ) → b ≡ Some a → Amount A a × (A.size a ≤ most_size)) → Sound A (record { events = s.events; bounds = with_bound s.bounds i j b; order = order; mode = mode })
  sound_with s i j b order mode h p q ne good = record {
    within = λ x y a e. of_pair (λ t. (t < s.events) × (y < s.events)) x y a e;
    amounts = λ x y a e. either x y a e (λ at f. (good a f).0) (λ f. h.amounts x y a f);
    sized = λ x y a e. either x y a e (λ at f. (good a f).1) (λ f. h.sized x y a f);
    apart = λ x. alone x;
  }
    where
      either : {P : Type 0} (x y : ℕ) (a : List ℤ) → with_bound s.bounds i j b x y ≡ Some a → ((eqb x i && eqb y j) ≡ true → b ≡ Some a → P) → (s.bounds x y ≡ Some a → P) → P
      either x y a e here there = ⊎_elim (λ t. here t (sym (cond-true (eqb x i && eqb y j) b (s.bounds x y) t) ∙ e)) (λ t. there (sym (cond-false (eqb x i && eqb y j) b (s.bounds x y) t) ∙ e)) (cases_Bool (eqb x i && eqb y j))

      of_pair : (P : ℕ → Type 0) (x y : ℕ) (a : List ℤ) → with_bound s.bounds i j b x y ≡ Some a → (x < s.events) × (y < s.events)
      of_pair P x y a e = either x y a e
          (λ t f. let c = and_parts (eqb x i) (eqb y j) t in let u = eqb-true x i c.0 in let v = eqb-true y j c.1 in (omega arith, omega arith))
          (λ f. h.within x y a f)

      alone : (x : ℕ) → with_bound s.bounds i j b x x ≡ None
      alone x = ⊎_elim
          (λ t. let c = and_parts (eqb x i) (eqb x j) t in absurd (ne (sym (eqb-true x i c.0) ∙ eqb-true x j c.1)))
          (λ t. cond-false (eqb x i && eqb x j) b (s.bounds x x) t ∙ h.apart x)
          (cases_Bool (eqb x i && eqb x j))

  pub sound_begun : (cells n : ℕ) (s : State) → Sound A s → Sound A (begun cells n s).after
  unfolding begun
  sound_begun cells n s h =
      sound_need (ltb 0 n && leb n most_events) 1 s (need (leb (cells_needed n) cells) 2 s (accepted (fresh n))) h
      (λ t. sound_need (leb (cells_needed n) cells) 2 s (accepted (fresh n)) h (λ u. sound_unbound n _ _))

  least_good : (o : Option (List ℤ)) (w : List ℤ) → ((a : List ℤ) → o ≡ Some a → Amount A a × (A.size a ≤ most_size)) → Amount A w × (A.size w ≤ most_size) → Amount A (lesser A o w) × (A.size (lesser A o w) ≤ most_size)
  least_good None w old new = new
  least_good (Some v) w old new = cond_both (A.at_most v w) v w (λ x. Amount A x × (A.size x ≤ most_size)) (λ t. old v refl) (λ t. new)

  pub sound_required : (i j : ℕ) (w : List ℤ) (s : State) → Amount A w → Sound A s → Sound A (required A i j w s).after
  unfolding required
  sound_required i j w s amount h =
      let after = accepted (rebound s i j (Some (lesser A (s.bounds i j) w))) in
      let small = leb (A.size w) most_size in
      sound_need (both_events s i j) 3 s (need (not (eqb i j)) 4 s (need small 11 s after)) h
      (λ t. sound_need (not (eqb i j)) 4 s (need small 11 s after) h
      (λ d. sound_need small 11 s after h
      (λ l. let c = and_parts (ltb i s.events) (ltb j s.events) t in
      sound_with s i j _ _ _ h (ltb-true i s.events c.0) (ltb-true j s.events c.1) (eqb-false i j (not-true (eqb i j) d))
      (λ a e. let g = least_good (s.bounds i j) w (λ v f. (h.amounts i j v f, h.sized i j v f)) (amount, leb-true (A.size w) most_size l) in
      subst (λ x. Amount A x × (A.size x ≤ most_size)) (inside (lesser A (s.bounds i j) w) a e) g))))
    where
      inside : (x y : List ℤ) → ◌≡◌ {A = Option (List ℤ)} (Some x) (Some y) → x ≡ y
      inside x y e = cc

  pub sound_withdrawn : (i j : ℕ) (s : State) → Sound A s → Sound A (withdrawn i j s).after
  unfolding withdrawn
  sound_withdrawn i j s h =
      let after = accepted (rebound s i j None) in
      let some = is_some (s.bounds i j) in
      sound_need (both_events s i j) 3 s (need (not (eqb i j)) 4 s (need some 12 s after)) h
      (λ t. sound_need (not (eqb i j)) 4 s (need some 12 s after) h
      (λ d. sound_need some 12 s after h
      (λ l. let c = and_parts (ltb i s.events) (ltb j s.events) t in
      sound_with s i j _ _ _ h (ltb-true i s.events c.0) (ltb-true j s.events c.1) (eqb-false i j (not-true (eqb i j) d)) (λ a e. absurd (none_some a e)))))

  pub sound_arranged : (list : List ℕ) (s : State) → Sound A s → Sound A (arranged list s).after
  unfolding arranged
  sound_arranged list s h = by_answer (orderings.arranged s.events list)
    where
      by_answer : (r : Result (List ℕ) Misordered) → Sound A (ordered_by s r).after
      by_answer (Ok events) = sound_reordered s events Open h
      by_answer (Err why) = h

  -- an outcome's state is as sound as the definition's
  pub sound_after : (o p : Outcome) → o ≡ p → Sound A p.after → Sound A o.after
  sound_after o p e h = subst (λ x. Sound A x.after) (sym e) h
